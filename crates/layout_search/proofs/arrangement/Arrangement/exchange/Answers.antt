use Rattle.std.proofs.Common.{subst, sym}
use Rattle.exchange_model.specs.Exchanges.{IsInside}
use Rattle.part_layout.specs.Kept.{lists_of}
use Rattle.part_layout.specs.Laid.{Laid}
use Rattle.layout_search.proofs.ArrangementLemmas.{exchange_put, exchanged_kept}
use Rattle.layout_search.proofs.arrangement.Arrangement.exchange.Goals as goal

pub invariant_of-self : goal.invariant_of-self
invariant_of-self c =
    exchanged_kept c.self.inside.bits (lists_of c.self.inside.parts.items) _ c.args.exchange
    (exchange_put (lists_of c.self.inside.parts.items) (lists_of c.put_position.new.parts.items) (lists_of c.put_position-2.new.parts.items) c.args.exchange
    c.position_at-first.result c.position_at-next.result c.put_position.ensures c.put_position-2.ensures c.position_at-first.ensures
    c.position_at-next.ensures)
    (subst (λ (laid : Laid). IsInside laid.parts c.args.exchange) (sym c.self.view_is) c.requires) c.self.invariant

pub returns-clause-laid : goal.returns-clause-laid
returns-clause-laid c = invariant_of-self c
