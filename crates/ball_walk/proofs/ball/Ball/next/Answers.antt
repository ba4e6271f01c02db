use Rattle.std.proofs.Common.{rules, ◌∙◌, arith}
use Rattle.ball_walk.proofs.BallLemmas.{rest_of_next}
use Rattle.ball_walk.proofs.ball.Ball.next.Goals as goal

pub loop-self-preserved : goal.loop-self-preserved
loop-self-preserved c = (
  record {
    small = search rules;
    in_width = search rules;
    few = omega arith;
    in_range = omega arith;
  },
  c.loop-self.invariant.1 ∙ rest_of_next _ _ _ _ _ (omega arith) c.in-None.ensures.first,
)
