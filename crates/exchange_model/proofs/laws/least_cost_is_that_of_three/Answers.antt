use Rattle.exchange_model.specs.Least.{least_cost}
use Rattle.exchange_model.specs.Pairs.{counts_of_pair, least_beside}
use Rattle.exchange_model.proofs.LeastLemmas.{least_cost_is}
use Rattle.exchange_model.proofs.PairLemmas.{pair_least}
use Rattle.std.proofs.Common.{arith}
use Rattle.exchange_model.proofs.laws.least_cost_is_that_of_three.Goals as goal

pub returns : goal.returns
returns c = λ count tau pair parts three inside starts.
    let least = least_cost (counts_of_pair count pair (least_beside count pair parts)) tau 3 in
    c.choice_is_unique.ensures.least count tau parts least (least_cost count tau parts)
    (pair_least count pair parts three inside starts tau least (least_cost_is (counts_of_pair count pair (least_beside count pair parts)) tau 3 (omega arith)))
    (least_cost_is count tau parts (omega arith))
