-- The lemmas on legal histories.
use Rattle.hamming_model.proofs.LegalLemmas.{legal_empty, legal_first, legal_last, legal_more}
use Rattle.hamming_model.proofs.history_laws.legal_histories_grow.Goals as goal

pub returns : goal.returns
returns c = record { begins = legal_empty; grows = legal_more; last = legal_last; first = legal_first }
