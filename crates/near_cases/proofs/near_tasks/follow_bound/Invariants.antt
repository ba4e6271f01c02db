-- What the loop keeps: hits are at most eight apart.
use Rattle.std.proofs.Common.{◌≡◌}
use Rattle.near_cases.proofs.near_tasks.follow_bound.Given as goal

abbrev pub invariant-loop-turn : goal.invariant-loop-turn
invariant-loop-turn g l = (g.H.HitSource.asked l.task).farthest ≡ 8
