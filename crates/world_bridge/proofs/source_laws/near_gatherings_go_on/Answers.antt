-- The lemmas on gatherings.
use Rattle.world_bridge.proofs.SourceLemmas.{near_goes_on, no_floor_left}
use Rattle.world_bridge.proofs.source_laws.near_gatherings_go_on.Goals as goal

pub returns : goal.returns
returns c = record { goes_on = near_goes_on; no_floor = no_floor_left }
