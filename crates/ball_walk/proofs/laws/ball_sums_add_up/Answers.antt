use Rattle.ball_walk.proofs.BallLemmas.{ball_sum}
use Rattle.ball_walk.proofs.laws.ball_sums_add_up.Goals as goal

pub returns : goal.returns
returns c = ball_sum
