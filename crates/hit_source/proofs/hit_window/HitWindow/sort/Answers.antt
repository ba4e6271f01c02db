-- The sorted hits are the hits in order.
use Rattle.std.proofs.Common.{ap}
use Rattle.hamming_model.proofs.OrderLemmas.{sorted_is_in_order}
use Rattle.hit_source.specs.Windows.{window_at}
use Rattle.hit_source.proofs.hit_window.HitWindow.sort.Goals as goal

pub returns-clause-sorted : goal.returns-clause-sorted
returns-clause-sorted c =
    rw (← c.self.view_is)
    (ap (λ hits. window_at hits c.self.inside.capacity c.self.inside.room c.self.inside.given c.self.inside.moved)
    (sorted_is_in_order _ _ c.sort_unstable.ensures.permutation c.sort_unstable.ensures.sorted))
