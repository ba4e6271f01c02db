-- The lemmas on the order of hits.
use Rattle.std.proofs.Common.{refl}
use Rattle.hamming_model.proofs.OrderLemmas.{sorted_is_in_order, in_order_permutation, in_order_sorted}
use Rattle.hamming_model.proofs.scan_laws.the_one_order.Goals as goal

pub returns : goal.returns
returns c = record { derived = λ a b. refl; only = sorted_is_in_order; keeps = in_order_permutation; ascends = in_order_sorted }
