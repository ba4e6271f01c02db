-- The lemmas on what is read.
use Rattle.search_model.proofs.CostLemmas.{read_is_cost}
use Rattle.search_model.proofs.kept_laws.rows_read_are_the_cost.Goals as goal

pub returns : goal.returns
returns c = read_is_cost
