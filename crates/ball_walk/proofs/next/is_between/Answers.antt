use Rattle.std.proofs.Common.{arith}
use Rattle.std.proofs.lemmas.Bool.{leb-true, le-leb}
use Rattle.ball_walk.proofs.next.is_between.Goals as goal

pub returns-then-least-apart : goal.returns-then-least-apart
returns-then-least-apart c =
    let apart = c.value_distance-apart.ensures.distance in
    let enough = c.if-least-apart.true in (
      (λ holds. let near = leb-true c.value_distance-apart.result c.args.most holds in (omega arith, omega arith)),
      (λ both. let near = both.1 in le-leb c.value_distance-apart.result c.args.most (omega arith)),
    )

pub returns-else-least-apart : goal.returns-else-least-apart
returns-else-least-apart c =
    let apart = c.value_distance-apart.ensures.distance in
    let less = c.if-least-apart.false in (
      (λ holds. let enough = leb-true c.args.least c.value_distance-apart.result holds in absurd (omega arith)),
      (λ both. let enough = both.0 in le-leb c.args.least c.value_distance-apart.result (omega arith)),
    )
