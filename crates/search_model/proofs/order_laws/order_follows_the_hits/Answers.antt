-- The lemmas on hits in order.
use Rattle.hamming_model.proofs.OrderLemmas.{same_in_order}
use Rattle.search_model.proofs.HitLemmas.{order_of_same, order_of_permuted, order_of_turned, order_size, order_rises}
use Rattle.search_model.proofs.order_laws.order_follows_the_hits.Goals as goal

pub returns : goal.returns
returns c =
    record {
      counted = same_in_order;
      same = order_of_same;
      permuted = order_of_permuted;
      turned = order_of_turned;
      size = order_size;
      ascends = order_rises;
    }
