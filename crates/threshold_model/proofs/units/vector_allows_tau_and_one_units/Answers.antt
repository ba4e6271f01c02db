use Rattle.std.proofs.Common.{map, ◌∙◌}
use Rattle.threshold_model.specs.Vectors.{units_of}
use Rattle.threshold_model.proofs.SplitLemmas.{split_of_vector}
use Rattle.threshold_model.proofs.FindingLemmas.{units_sum, near_of_units, units_of_near}
use Rattle.threshold_model.proofs.ChoiceLemmas.{entries_small}
use Rattle.threshold_model.proofs.units.vector_allows_tau_and_one_units.Goals as goal

pub returns-clause-sum : goal.returns-clause-sum
returns-clause-sum c = λ tau parts ts vector. units_sum (map units_of ts) ∙ (split_of_vector tau parts ts vector).sum

pub returns-clause-size : goal.returns-clause-size
returns-clause-size c = λ tau parts ts vector. (split_of_vector tau parts ts vector).size

pub returns-clause-within : goal.returns-clause-within
returns-clause-within c = λ distance threshold. (units_of_near distance threshold, near_of_units distance threshold)

pub returns-clause-most : goal.returns-clause-most
returns-clause-most c = entries_small
