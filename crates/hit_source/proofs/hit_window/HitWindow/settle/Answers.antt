use Rattle.std.proofs.Common.{◌+◌, ◌≤◌, ◌++◌, length, take, drop, ap, sym, subst, ◌∙◌, arith}
use Rattle.std.proofs.lemmas.List.{with_items_is}
use Rattle.hit_source.specs.Windows.{Window, window_at}
use Rattle.hit_source.specs.Settled.{Settles}
use Rattle.hit_source.proofs.SettleLemmas.{settles}
use Rattle.hit_source.proofs.hit_window.HitWindow.settle.Goals as goal

pub returns-clause-settles : goal.returns-clause-settles
returns-clause-settles c =
    let own = c.self.inside in
    let within : c.args.from ≤ length own.found.items = subst (λ (w : Window). c.args.from ≤ length w.found) (sym c.self.view_is) c.requires.from in
    let settled = settles c.args.from c.args.units c.order_nearer.result own.capacity own.room own.given own.moved
    own.found.items _ _ _ within (c.split_at_mut-front.ensures.front ∙ ap (take c.args.from) c.as_mut_slice.ensures.value)
    (c.split_at_mut-front.ensures.back ∙ ap (drop c.args.from) c.as_mut_slice.ensures.value) c.order_nearer.ensures in
    let size = settled.size in
    rw (← c.self.view_is)
    (subst (λ hits. Settles c.args.from c.args.units
    (window_at own.found.items own.capacity own.room own.given own.moved)
    (window_at hits own.capacity own.room own.given own.moved) (c.args.from + c.order_nearer.result))
    (sym (with_items_is own.found (c.split_at_mut-front.result.0.now ++ c.order_nearer.new.hits) (omega arith))) settled)
