use Rattle.std.proofs.Common.{◌≡◌}
use Rattle.ball_walk.specs.Walk.{rest_of, IsWalk}
use Rattle.ball_walk.proofs.ball.Ball.next.Given as goal

abbrev pub invariant-loop-self : goal.invariant-loop-self
invariant-loop-self l =
    IsWalk l.self-inside.value l.self-inside.width l.self-inside.apart l.self-inside.from l.self-inside.left
    × (l.fn.self ≡ rest_of l.self-inside.value l.self-inside.width l.self-inside.apart l.self-inside.from l.self-inside.left)

abbrev pub decreases-loop-self : goal.decreases-loop-self
decreases-loop-self l = l.self-inside.left
