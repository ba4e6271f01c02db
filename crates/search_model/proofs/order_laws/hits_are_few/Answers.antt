-- The lemmas on how many hits are kept.
use Rattle.search_model.proofs.CostLemmas.{few_of_part, few_of_parts}
use Rattle.search_model.proofs.order_laws.hits_are_few.Goals as goal

pub returns : goal.returns
returns c = record { of_a_part = few_of_part; of_parts = few_of_parts }
