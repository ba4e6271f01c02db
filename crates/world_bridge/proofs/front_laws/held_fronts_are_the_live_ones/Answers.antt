-- The lemmas on fronts that are held.
use Rattle.world_bridge.proofs.HeldLemmas.{held_closed, held_grown, held_opened, positions_same}
use Rattle.world_bridge.proofs.front_laws.held_fronts_are_the_live_ones.Goals as goal

pub returns : goal.returns
returns c = record { opened = held_opened; closed = held_closed; grown = held_grown; positions = positions_same }
