use Rattle.std.proofs.Common.{arith}
use Rattle.threshold_model.proofs.FindingLemmas.{some_below, units_sum}
use Rattle.threshold_model.proofs.first_below.some_place_is_below.Goals as goal

pub returns : goal.returns
returns c =
    record { below = λ units distances size less. some_below units distances size (omega (arith, less, units_sum units, units_sum distances)) }
