-- The lemmas on what words keep as a history grows.
use Rattle.hamming_model.proofs.RecodedLemmas.{stored_decided, stored_first}
use Rattle.hamming_model.proofs.recoded_laws.stored_histories_grow.Goals as goal

pub returns : goal.returns
returns c = record { first = stored_first; decided = stored_decided }
