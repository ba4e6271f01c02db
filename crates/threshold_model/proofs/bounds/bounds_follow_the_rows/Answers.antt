use Rattle.threshold_model.proofs.ChoiceLemmas.{least_of_rows}
use Rattle.threshold_model.proofs.BoundLemmas.{sum_of_rows, bound_of_none}
use Rattle.threshold_model.proofs.bounds.bounds_follow_the_rows.Goals as goal

pub returns-clause-range : goal.returns-clause-range
returns-clause-range c = λ tau code rows layout last bound. least_of_rows rows layout code tau bound

pub returns-clause-sum : goal.returns-clause-sum
returns-clause-sum c = sum_of_rows

pub returns-clause-none : goal.returns-clause-none
returns-clause-none c = bound_of_none
