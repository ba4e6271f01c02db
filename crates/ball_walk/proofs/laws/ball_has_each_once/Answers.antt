use Rattle.ball_walk.proofs.BallLemmas.{ball_count}
use Rattle.ball_walk.proofs.laws.ball_has_each_once.Goals as goal

pub returns : goal.returns
returns c = ball_count
