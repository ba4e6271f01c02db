-- The sorted hits are the near rows in order.
use Rattle.hamming_model.proofs.OrderLemmas.{sort_gives_order}
use Rattle.hamming_model.proofs.plain.plain_scan.Goals as goal

pub returns : goal.returns
returns c = record {
  scan = sort_gives_order _ c.in_ok-hits.hits.items _ c.sort_unstable.ensures.permutation c.sort_unstable.ensures.sorted c.in_ok-hits.ensures.near;
}
