use Rattle.gph_codes.proofs.DistanceLemmas.{distance-StandsFor}
use Rattle.gph_codes.proofs.distance.distance_of_codes.Goals as goal

pub returns : goal.returns
returns c = distance-StandsFor
