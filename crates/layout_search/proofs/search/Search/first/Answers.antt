use Rattle.std.proofs.Common.{◌-◌, nat_lt, length, ap, sym, ◌∙◌, arith, subst, Option, Some}
use Rattle.exchange_model.specs.Exchanges.{exchanged}
use Rattle.part_layout.specs.Laid.{Laid}
use Rattle.exchange_model.specs.declared.position_exchange.PositionExchange.{PositionExchange}
use Rattle.layout_search.specs.Ready.{LeavesExchanged, cost_with}
use Rattle.exchange_model.specs.Exchanges.{exchanges_of_part}
use Rattle.exchange_model.specs.Rounds.{first_below}
use Rattle.layout_search.proofs.StepLemmas.{none_more, same_first, same_trans, some_first}
use Rattle.layout_search.proofs.search.Search.first.Goals as goal

pub returns-in-Some-clause-first : goal.returns-in-Some-clause-first
returns-in-Some-clause-first g c =
    let inv = c.loop-part.invariant in
    let own = c.first_of_part.ensures.first ∙ same_first c.args.self.now c.loop-part.self c.args.bound inv.1 inv.2
    (exchanges_of_part c.loop-part.self.layout.parts c.loop-part.part)
    ∙ ap (λ (l : Laid). first_below (cost_with c.args.self.now) c.args.self.now.layout.parts c.args.bound
    (exchanges_of_part l.parts c.loop-part.part)) inv.2 in
    let end = c.parts-part-end.ensures.number in
    sym (some_first (λ e. nat_lt (cost_with c.args.self.now (exchanged c.args.self.now.layout.parts e)) c.args.bound)
    (exchanges_of_part c.args.self.now.layout.parts) c.loop-part.part
    (length c.args.self.now.layout.parts - 1) _ (omega arith) inv.3 (sym own ∙ c.in-Some.is))

pub loop-part-preserved : goal.loop-part-preserved
loop-part-preserved g c =
    let inv = c.loop-part.invariant in
    let own = c.first_of_part.ensures.first ∙ same_first c.args.self.now c.loop-part.self c.args.bound inv.1 inv.2
    (exchanges_of_part c.loop-part.self.layout.parts c.loop-part.part)
    ∙ ap (λ (l : Laid). first_below (cost_with c.args.self.now) c.args.self.now.layout.parts c.args.bound
    (exchanges_of_part l.parts c.loop-part.part)) inv.2 in (
      c.first_of_part.ensures.ready,
      same_trans c.args.self.now c.loop-part.self c.first_of_part.new.self inv.1 c.first_of_part.ensures.task,
      subst (λ (o : Option PositionExchange). LeavesExchanged c.loop-part.self.layout c.first_of_part.new.self.layout o) c.in_default.is
          c.first_of_part.ensures.layout ∙ inv.2,
      none_more (λ e. nat_lt (cost_with c.args.self.now (exchanged c.args.self.now.layout.parts e)) c.args.bound)
          (exchanges_of_part c.args.self.now.layout.parts) c.loop-part.part
          inv.3 (sym own ∙ c.in_default.is),
    )

pub returns-in-Some-clause-layout : goal.returns-in-Some-clause-layout
returns-in-Some-clause-layout g c =
    subst (λ (l : Laid). LeavesExchanged l c.first_of_part.new.self.layout (Some c.in-Some.exchange)) c.loop-part.invariant.2
    (subst (λ (o : Option PositionExchange). LeavesExchanged c.loop-part.self.layout c.first_of_part.new.self.layout o) c.in-Some.is
    c.first_of_part.ensures.layout)
