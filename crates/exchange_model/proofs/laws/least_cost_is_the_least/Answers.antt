use Rattle.exchange_model.specs.Least.{least_cost}
use Rattle.exchange_model.proofs.AgreeLemmas.{least_agrees}
use Rattle.exchange_model.proofs.LeastLemmas.{least_cost_is}
use Rattle.exchange_model.proofs.laws.least_cost_is_the_least.Goals as goal

pub returns : goal.returns
returns c =
    let unique = c.choice_is_unique.ensures.least in
    record {
      least = least_cost_is;
      alone = λ count tau parts least some is. unique count tau parts least (least_cost count tau parts) is (least_cost_is count tau parts some);
      agrees = λ one other tau parts some agree.
          unique other tau parts (least_cost one tau parts) (least_cost other tau parts)
          (least_agrees c.vector_allows_tau_and_one_units.ensures.most one other tau parts agree (least_cost one tau parts) (least_cost_is one tau parts some))
          (least_cost_is other tau parts some);
    }
