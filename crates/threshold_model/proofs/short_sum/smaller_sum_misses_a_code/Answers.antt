use Rattle.threshold_model.proofs.MissedLemmas.{code_missed}
use Rattle.threshold_model.proofs.short_sum.smaller_sum_misses_a_code.Goals as goal

pub returns : goal.returns
returns c = record { missed = code_missed }
