-- The lemmas on what sources ask.
use Rattle.world_bridge.proofs.SourceLemmas.{near_asks, range_asks, range_fresh, range_units}
use Rattle.world_bridge.proofs.source_laws.sources_ask_the_question.Goals as goal

pub returns : goal.returns
returns c = record { range = range_asks; near = near_asks; range_begins = range_fresh; range_units = range_units }
