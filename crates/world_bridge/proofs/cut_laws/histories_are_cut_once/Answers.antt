-- The lemmas on histories that are cut.
use Rattle.world_model.proofs.PlaceLemmas.{cut_is_same}
use Rattle.world_bridge.proofs.CutLemmas.{cut_appended, cut_twice, stored_adds}
use Rattle.world_bridge.proofs.cut_laws.histories_are_cut_once.Goals as goal

pub returns : goal.returns
returns c = record { twice = cut_twice; same = cut_is_same; appended = cut_appended; adds = stored_adds }
