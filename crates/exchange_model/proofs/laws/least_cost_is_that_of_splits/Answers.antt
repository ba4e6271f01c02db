use Rattle.exchange_model.specs.Least.{least_cost}
use Rattle.exchange_model.proofs.LeastLemmas.{least_cost_is}
use Rattle.exchange_model.proofs.PairLemmas.{split_least}
use Rattle.exchange_model.proofs.laws.least_cost_is_that_of_splits.Goals as goal

pub returns : goal.returns
returns c = λ count tau parts least some is.
    c.choice_is_unique.ensures.least count tau parts least (least_cost count tau parts) (split_least count tau parts least is)
    (least_cost_is count tau parts some)
