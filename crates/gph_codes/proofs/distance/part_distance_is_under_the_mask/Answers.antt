use Rattle.gph_codes.proofs.PartMaskLemmas.{under_mask}
use Rattle.gph_codes.proofs.distance.part_distance_is_under_the_mask.Goals as goal

pub returns : goal.returns
returns c = under_mask
