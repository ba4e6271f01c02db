use Rattle.threshold_model.proofs.FindingLemmas.{near_code_found}
use Rattle.threshold_model.proofs.pigeonhole.near_code_is_found.Goals as goal

pub returns : goal.returns
returns c = record { found = near_code_found }
