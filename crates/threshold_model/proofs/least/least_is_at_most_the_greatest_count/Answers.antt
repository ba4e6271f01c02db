use Rattle.threshold_model.proofs.ChoiceLemmas.{first_part_vector, least_at_most, least_of_rows}
use Rattle.threshold_model.proofs.least.least_is_at_most_the_greatest_count.Goals as goal

pub returns-clause-allowed : goal.returns-clause-allowed
returns-clause-allowed c = first_part_vector

pub returns-clause-counts : goal.returns-clause-counts
returns-clause-counts c = least_at_most

pub returns-clause-rows : goal.returns-clause-rows
returns-clause-rows c = least_of_rows
