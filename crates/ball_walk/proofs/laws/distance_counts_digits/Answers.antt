use Rattle.ball_walk.proofs.DigitLemmas.{distance_digits, distance_codes, number_below}
use Rattle.ball_walk.proofs.laws.distance_counts_digits.Goals as goal

pub returns-clause-of_values : goal.returns-clause-of_values
returns-clause-of_values c = distance_digits

pub returns-clause-of_codes : goal.returns-clause-of_codes
returns-clause-of_codes c = distance_codes

pub returns-clause-in_width : goal.returns-clause-in_width
returns-clause-in_width c = number_below
