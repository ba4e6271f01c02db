use Rattle.load_model.proofs.BoundLemmas.{bounds_unique}
use Rattle.load_model.proofs.laws.a_load_has_one_bound.Goals as goal

pub returns : goal.returns
returns c = bounds_unique
