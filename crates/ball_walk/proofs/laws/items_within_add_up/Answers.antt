use Rattle.ball_walk.proofs.BallLemmas.{ball_items}
use Rattle.ball_walk.proofs.laws.items_within_add_up.Goals as goal

pub returns : goal.returns
returns c = ball_items
