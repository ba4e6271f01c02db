-- What a search for a layout of a shard finds.
use Rattle.std.specs.Prelude.{◌≡◌, ℕ, ◌≤◌, List, length}
use Rattle.std.specs.Arc.{arc_value}
use Rattle.part_layout.specs.Laid.{IsLaid}
use Rattle.shard_version.specs.Contents.{Contents}
use Rattle.layout_search.specs.Improves.{FindsImproved}
use Rattle.layout_search.specs.declared.found.Found.{Found}
use Rattle.layout_search.specs.declared.sample.Sample.{Sample}
use Rattle.session_desk.specs.Desks.{DeskState}
use Rattle.query_opening.specs.Pinning.{IsPinnedShard}

-- a layout was found for a shard, from its version at a position on, which was pinned there
pub record FindsFrom {W : ℕ} (old new : DeskState) (shard : ℕ) (samples : List (Sample W))
    (rounds : ℕ) (found : Found) (at : ℕ) : Type 0 where
  pub version : Contents
  pub pinned : IsPinnedShard old new at shard version
  pub ends : FindsImproved version samples rounds found
  pub laid : IsLaid (arc_value found.layout)

-- so it was at the position of a front, the last one that was opened
pub record FindsLayout {W : ℕ} (old new : DeskState) (shard : ℕ) (samples : List (Sample W))
    (rounds : ℕ) (found : Found) (at : ℕ) : Type 0 where
  pub finds : FindsFrom old new shard samples rounds found at
  pub last : new.last ≡ at
  pub after : length old.seen ≤ at
  pub within : at ≤ length new.seen
