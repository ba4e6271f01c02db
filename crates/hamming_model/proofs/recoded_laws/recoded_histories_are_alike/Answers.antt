-- The lemmas on recoded histories.
use Rattle.hamming_model.proofs.RecodedLemmas.{decision_recoded, first_recoded, legal_recoded, rows_recoded}
use Rattle.hamming_model.proofs.recoded_laws.recoded_histories_are_alike.Goals as goal

pub returns : goal.returns
returns c = record { rows = rows_recoded; first = first_recoded; legal = legal_recoded; decided = decision_recoded }
