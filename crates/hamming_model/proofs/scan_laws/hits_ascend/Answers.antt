-- The lemmas on hits that ascend.
use Rattle.hamming_model.proofs.OrderLemmas.{hit_order, not_both_gt, first_before, ascends_from_sorted, ascends_in_order, sorted_from_ascends}
use Rattle.hamming_model.specs.Scan.{hit_cmp}
use Rattle.hamming_model.proofs.scan_laws.hits_ascend.Goals as goal

pub returns : goal.returns
returns c = record {
  one = λ a b. not_both_gt (hit_cmp a b) (hit_cmp b a) (hit_order.antisymm b a);
  first = first_before;
  sorted = λ hits. (sorted_from_ascends hits, ascends_from_sorted hits);
  in_order = ascends_in_order;
}
