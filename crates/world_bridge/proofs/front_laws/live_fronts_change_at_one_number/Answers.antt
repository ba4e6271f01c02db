-- The lemmas on one live front more and one less.
use Rattle.world_bridge.proofs.HeldLemmas.{live_closed_again, live_inserted, live_removed}
use Rattle.world_bridge.proofs.front_laws.live_fronts_change_at_one_number.Goals as goal

pub returns : goal.returns
returns c = record { inserted = live_inserted; removed = live_removed; closed_again = live_closed_again }
