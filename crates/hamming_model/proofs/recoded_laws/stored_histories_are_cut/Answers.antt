-- The lemmas on what words keep.
use Rattle.hamming_model.proofs.RecodedLemmas.{codes_cut, cut_again, stored_again}
use Rattle.hamming_model.proofs.recoded_laws.stored_histories_are_cut.Goals as goal

pub returns : goal.returns
returns c = record { codes = codes_cut; stored = stored_again; cut = cut_again }
