-- The lemma on gatherings.
use Rattle.world_model.proofs.GatherLemmas.{sources_answer}
use Rattle.world_model.proofs.laws.sources_together_answer.Goals as goal

pub returns : goal.returns
returns c = sources_answer
