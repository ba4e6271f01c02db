use Rattle.std.proofs.Common.{◌+◌, nat_lt, [], length, get_or, ap, sym, ◌∙◌, arith}
use Rattle.std.proofs.lemmas.Bool.{lt-ltb, le-ltb}
use Rattle.exchange_model.specs.Exchanges.{exchanged}
use Rattle.layout_search.specs.Arranged.{exchanged_in}
use Rattle.part_layout.specs.Laid.{Laid}
use Rattle.layout_search.specs.Ready.{cost_with}
use Rattle.exchange_model.specs.Exchanges.{exchange_of}
use Rattle.layout_search.proofs.StepLemmas.{none_more_map, same_test, same_trans, some_first_map}
use Rattle.layout_search.proofs.search.Search.first_of_place.Goals as goal

pub returns-then-cost_after-bound-clause-first : goal.returns-then-cost_after-bound-clause-first
returns-then-cost_after-bound-clause-first g c =
    let inv = c.loop-other.invariant in
    let end = c.width-other-end.ensures in
    let e = exchange_of c.args.part c.args.place c.loop-other.other in
    let test = same_test c.args.self.now c.loop-other.self c.args.bound inv.1 inv.2 e in
    let cost = c.cost_after.ensures.cost in
    let below = lt-ltb (cost_with c.loop-other.self (exchanged c.loop-other.self.layout.parts e)) c.args.bound (omega arith) in
    sym (some_first_map (λ e. nat_lt (cost_with c.args.self.now (exchanged c.args.self.now.layout.parts e)) c.args.bound)
    (exchange_of c.args.part c.args.place) c.loop-other.other
    (length (get_or c.args.self.now.layout.parts (c.args.part + 1) [])) (omega arith) inv.3 (sym test ∙ below))

pub returns-then-cost_after-bound-clause-layout : goal.returns-then-cost_after-bound-clause-layout
returns-then-cost_after-bound-clause-layout g c =
    c.exchange.ensures.layout
    ∙ ap (λ (l : Laid). exchanged_in l (exchange_of c.args.part c.args.place c.loop-other.other)) (c.cost_after.ensures.layout ∙ c.loop-other.invariant.2)

pub loop-other-preserved : goal.loop-other-preserved
loop-other-preserved g c =
    let e = exchange_of c.args.part c.args.place c.loop-other.other in
    let inv = c.loop-other.invariant in
    let test = same_test c.args.self.now c.loop-other.self c.args.bound inv.1 inv.2 e in
    let cost = c.cost_after.ensures.cost in
    let not_below = le-ltb (cost_with c.loop-other.self (exchanged c.loop-other.self.layout.parts e)) c.args.bound (omega arith) in (
      c.cost_after.ensures.ready,
      same_trans c.args.self.now c.loop-other.self c.cost_after.new.self inv.1 c.cost_after.ensures.task,
      c.cost_after.ensures.layout ∙ inv.2,
      none_more_map (λ e. nat_lt (cost_with c.args.self.now (exchanged c.args.self.now.layout.parts e)) c.args.bound)
          (exchange_of c.args.part c.args.place) c.loop-other.other
          inv.3 (sym test ∙ not_below),
      c.cost_after.ensures.turned,
    )
