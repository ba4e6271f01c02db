use Rattle.std.proofs.Common.{◌+◌, ◌-◌, ◌<◌, ap, sym, ◌∙◌, arith, subst, Option, Some}
use Rattle.exchange_model.specs.Rounds.{Reached}
use Rattle.exchange_model.specs.declared.position_exchange.PositionExchange.{PositionExchange}
use Rattle.part_layout.specs.Laid.{Laid}
use Rattle.layout_search.specs.Arranged.{reached_in}
use Rattle.layout_search.specs.Ready.{LeavesExchanged, end_of}
use Rattle.layout_search.proofs.RoundLemmas.{better_found, reached_none, reached_some}
use Rattle.layout_search.proofs.StepLemmas.{same_trans}
use Rattle.layout_search.proofs.search.Search.+improve.Goals as goal

pub returns-in_default : goal.returns-in_default
returns-in_default g t c =
    let old = c.args.self.now in
    let between = c.cost-bound.new.self in
    let is = better_found old between c.cost-bound.result c.first.result c.cost-bound.ensures.task c.cost-bound.ensures.layout c.cost-bound.ensures.cost
    c.first.ensures.first in
    let some : 0 < c.args.rounds = omega arith in
    let reached = reached_none old c.args.rounds c.first.result some is c.in_default.is in
    let layout = subst (λ (found : Option PositionExchange). LeavesExchanged between.layout c.first.new.self.layout found) c.in_default.is
    c.first.ensures.layout in
    record {
      ready = c.first.ensures.ready;
      task = same_trans old between c.first.new.self c.cost-bound.ensures.task c.first.ensures.task;
      layout = layout ∙ c.cost-bound.ensures.layout ∙ ap (reached_in old.layout) (sym reached);
      swaps = ap (λ (r : Reached). r.swaps) (sym reached);
      few = omega arith;
    }

pub returns : goal.returns
returns g t c =
    let old = c.args.self.now in
    let between = c.cost-bound.new.self in
    let is = better_found old between c.cost-bound.result c.first.result c.cost-bound.ensures.task c.cost-bound.ensures.layout c.cost-bound.ensures.cost
    c.first.ensures.first in
    let some : 0 < c.args.rounds = omega arith in
    let made = subst (λ (found : Option PositionExchange). LeavesExchanged between.layout c.first.new.self.layout found) c.in-Some.is
    c.first.ensures.layout in
    let layout = subst (λ (l : Laid). LeavesExchanged l c.first.new.self.layout (Some c.in-Some._exchange)) c.cost-bound.ensures.layout made in
    let same = same_trans old between c.first.new.self c.cost-bound.ensures.task c.first.ensures.task in
    let reached = reached_some old c.args.rounds c.first.result some is c.in-Some._exchange c.first.new.self c.in-Some.is same layout in
    record {
      ready = c.improve.ensures.ready;
      task = same_trans old c.first.new.self c.improve.new.self same c.improve.ensures.task;
      layout = c.improve.ensures.layout ∙ ap (λ (l : Laid). reached_in l (end_of c.first.new.self (c.args.rounds - 1))) layout
          ∙ ap (reached_in old.layout) (sym reached);
      swaps = ap (λ n. n + 1) c.improve.ensures.swaps ∙ ap (λ (r : Reached). r.swaps) (sym reached);
      few = let h = c.improve.ensures.few in omega arith;
    }
