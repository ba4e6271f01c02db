use Rattle.ball_walk.proofs.FlipLemmas.{flipped_sum, flipped_ball_sum, flipped_below}
use Rattle.ball_walk.proofs.laws.flips_make_rings.Goals as goal

pub returns-clause-rings : goal.returns-clause-rings
returns-clause-rings c = flipped_sum

pub returns-clause-balls : goal.returns-clause-balls
returns-clause-balls c = flipped_ball_sum

pub returns-clause-in_width : goal.returns-clause-in_width
returns-clause-in_width c = flipped_below
