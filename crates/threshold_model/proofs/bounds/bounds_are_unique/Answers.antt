use Rattle.threshold_model.proofs.BoundLemmas.{sum_unique, bound_unique, plan_unique, units_unique}
use Rattle.threshold_model.proofs.bounds.bounds_are_unique.Goals as goal

pub returns-clause-sum : goal.returns-clause-sum
returns-clause-sum c = sum_unique

pub returns-clause-bound : goal.returns-clause-bound
returns-clause-bound c = bound_unique

pub returns-clause-plan : goal.returns-clause-plan
returns-clause-plan c = plan_unique

pub returns-clause-units : goal.returns-clause-units
returns-clause-units c = units_unique
