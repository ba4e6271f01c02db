use Rattle.std.proofs.Common.{refl, arith}
use Rattle.std.proofs.lemmas.Bool.{false≢true}
use Rattle.ball_walk.proofs.BallLemmas.{ring_from_here, ring_from_end}
use Rattle.ball_walk.proofs.NextLemmas.{ring_after}
use Rattle.ball_walk.proofs.ball.first_from.Goals as goal

pub returns-then-from-bound_of-clause-first : goal.returns-then-from-bound_of-clause-first
returns-then-from-bound_of-clause-first c = ring_from_end c.args.value c.args.width c.args.apart c.args.from (omega arith)

pub returns-then-is_between-clause-first : goal.returns-then-is_between-clause-first
returns-then-is_between-clause-first c =
    let facts = c.if-is_between.ensures.0 refl in
    ring_from_here c.args.value c.args.width c.args.apart c.args.from (omega arith) (omega arith)

pub returns-clause-first : goal.returns-clause-first
returns-clause-first c =
    ring_after c.args.value c.args.width c.args.apart c.args.from c.next_after.result (omega arith)
    (λ same. absurd (false≢true (c.if-is_between.ensures.1 (omega arith, omega arith))))
    c.next_after.ensures
