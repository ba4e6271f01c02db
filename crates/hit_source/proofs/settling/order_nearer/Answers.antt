use Rattle.std.proofs.Common.{take}
use Rattle.hamming_model.proofs.OrderLemmas.{sorted_is_in_order}
use Rattle.hit_source.proofs.SettleLemmas.{orders_nearer}
use Rattle.hit_source.proofs.settling.order_nearer.Goals as goal

pub returns : goal.returns
returns c =
    orders_nearer c.args.units c.gather-near.result c.args.hits.now c.gather-near.new.hits c.sort_unstable.new.self
    c.gather-near.ensures c.sort_unstable.ensures.len
    (sorted_is_in_order (take c.gather-near.result c.gather-near.new.hits) c.sort_unstable.new.self
    c.sort_unstable.ensures.permutation c.sort_unstable.ensures.sorted)
