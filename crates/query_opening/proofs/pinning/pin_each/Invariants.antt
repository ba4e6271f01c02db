-- What the loop keeps: the first shards are pinned, and the front is still the desk's own.
use Rattle.std.proofs.Common.{◌+◌, ◌≤◌}
use Rattle.commit_journal.specs.Fronts.{position_of}
use Rattle.session_desk.specs.Calls.{KeepsKnown}
use Rattle.session_desk.specs.Desks.{IsOwnFront}
use Rattle.query_opening.specs.Pinning.{PinsFirst, behind, contents_of_all}
use Rattle.query_opening.proofs.pinning.pin_each.Given as goal

abbrev pub invariant-loop-shard : goal.invariant-loop-shard
invariant-loop-shard g l =
    PinsFirst (g.D.Desk.desk l.fn.desk) (g.D.Desk.desk l.desk) (position_of l.front) (contents_of_all l.versions.items) l.shard
    × (IsOwnFront (g.D.Desk.desk l.desk) l.front
    × (g.D.Desk.knows l.desk l.front
    × (KeepsKnown (g.D.Desk.desk l.desk) (g.D.Desk.knows l.fn.desk) (g.D.Desk.knows l.desk)
    × (l.steps ≤ l.fn.steps + behind (g.D.Desk.desk l.fn.desk).pins (position_of l.front) l.shard))))
