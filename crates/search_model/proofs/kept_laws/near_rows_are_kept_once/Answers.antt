-- The lemmas on what is kept.
use Rattle.search_model.proofs.KeptLemmas.{kept_is_scan}
use Rattle.search_model.proofs.kept_laws.near_rows_are_kept_once.Goals as goal

pub returns : goal.returns
returns c = λ bits tau rows layout thresholds query read. kept_is_scan layout thresholds query tau bits rows read
