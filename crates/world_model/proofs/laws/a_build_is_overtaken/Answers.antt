-- The worked list, by computation.
use Rattle.world_model.proofs.WorkedLemmas.{worked_is_run}
use Rattle.world_model.proofs.laws.a_build_is_overtaken.Goals as goal

pub returns : goal.returns
returns c = worked_is_run
