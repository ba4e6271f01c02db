use Rattle.threshold_model.proofs.BoundLemmas.{least_rises, sum_rises, bound_rises, bound_first}
use Rattle.threshold_model.proofs.bounds.bounds_rise_with_the_radius.Goals as goal

pub returns-clause-least : goal.returns-clause-least
returns-clause-least c = least_rises

pub returns-clause-sum : goal.returns-clause-sum
returns-clause-sum c = sum_rises

pub returns-clause-bound : goal.returns-clause-bound
returns-clause-bound c = bound_rises

pub returns-clause-first : goal.returns-clause-first
returns-clause-first c = bound_first
