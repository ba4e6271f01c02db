-- The lemmas on decisions.
use Rattle.hamming_model.proofs.LegalLemmas.{accepted_fits, legal_decided}
use Rattle.hamming_model.proofs.history_laws.decisions_keep_a_history_legal.Goals as goal

pub returns : goal.returns
returns c = record { accepted = accepted_fits; legal = legal_decided }
