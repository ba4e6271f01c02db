use Rattle.ball_walk.proofs.OrderLemmas.{ball_order}
use Rattle.ball_walk.proofs.laws.ball_is_in_order.Goals as goal

pub returns : goal.returns
returns c = ball_order
