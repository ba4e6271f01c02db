use Rattle.threshold_model.proofs.BoundLemmas.{units_of_costs}
use Rattle.threshold_model.proofs.bounds.units_are_values_and_costs.Goals as goal

pub returns : goal.returns
returns c = units_of_costs
