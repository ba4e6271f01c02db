use Rattle.std.proofs.Common.{◌≡◌, ◌≤◌, length, map, take}
use Rattle.session_model.specs.Told.{last_told}
use Rattle.open_session.specs.Pinned.{told_layout}
use Rattle.open_session.proofs.pinned_layouts.is_told.Given as goal

-- the last of the shard is among the first of the items
abbrev pub invariant-loop-left : goal.invariant-loop-left
invariant-loop-left l = (l.left ≤ length l.told)
    × (last_told l.shard (map told_layout l.told) ≡ last_told l.shard (map told_layout (take l.left l.told)))

abbrev pub decreases-loop-left : goal.decreases-loop-left
decreases-loop-left l = l.left
