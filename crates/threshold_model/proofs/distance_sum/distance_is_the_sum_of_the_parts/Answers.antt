use Rattle.threshold_model.proofs.PositionLemmas.{distance_is_sum}
use Rattle.threshold_model.proofs.distance_sum.distance_is_the_sum_of_the_parts.Goals as goal

pub returns : goal.returns
returns c =
    record { sum = λ bits layout code query lay is_code is_query. distance_is_sum bits layout code query lay is_code.size is_query.size }
