use Rattle.std.proofs.Common.{◌≡◌, ◌≤◌, ◌++◌, length, map, take, drop}
use Rattle.query_opening.specs.Pinning.{contents_of_all}
use Rattle.open_session.specs.Pinned.{layouts_in, told_layout}
use Rattle.open_session.proofs.PinnedLemmas.{told_of_all}
use Rattle.open_session.proofs.pinned_layouts.PinnedLayouts.add.Given as goal

-- the items from before stand in front, and with those of the shards to come are all
abbrev pub invariant-loop-shard : goal.invariant-loop-shard
invariant-loop-shard g l = record {
  known : l.known ≡ length l.fn.self.told.items;
  front : take l.known l.self.told.items ≡ l.fn.self.told.items;
  longer : l.known ≤ length l.self.told.items;
  opened : l.self.opened ≡ l.fn.self.opened;
  told : map told_layout l.self.told.items
      ++ told_of_all (map told_layout l.fn.self.told.items) l.fn.self.opened l.shard
      (drop l.shard (layouts_in (contents_of_all l.versions)))
      ≡ map told_layout l.fn.self.told.items
      ++ told_of_all (map told_layout l.fn.self.told.items) l.fn.self.opened 0 (layouts_in (contents_of_all l.versions));
}
