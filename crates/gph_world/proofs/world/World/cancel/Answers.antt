-- A query that goes on is cancelled, and its front is closed.
use Rattle.std.proofs.Common.{inl, refl, sym, ap, subst, ◌∙◌, arith}
use Rattle.std.specs.Prelude.{Err, Ok, slice_set}
use Rattle.world_model.specs.declared.refused.Refused.TheVariants.{Closed}
use Rattle.world_model.specs.declared.told.Told.TheVariants as told
use Rattle.world_model.specs.Events.{Cancel}
use Rattle.world_model.specs.WorldStep.{WorldStep}
use Rattle.gph_world.specs.Kept.{KeepsWorld}
use Rattle.world_parts.specs.Seen.{query_seen}
use Rattle.gph_world.specs.Seen.{setting_seen, state_seen}
use Rattle.gph_world.specs.Worlds.{WorldView}
use Rattle.world_parts.specs.declared.held.Held.{Held}
use Rattle.gph_world.proofs.CancelLemmas.{cancel_keeps, cancel_step, was_closed}
use Rattle.world_parts.proofs.ListLemmas.{found_there, two_found}
use Rattle.gph_world.proofs.HeldLemmas.{front_is_live, seen_there}
use Rattle.gph_world.proofs.world.World.cancel.Goals as goal

pub returns-then-held-clause-step : goal.returns-then-held-clause-step
returns-then-held-clause-step g c =
    subst (λ (w : WorldView). WorldStep w.setting w.state (Cancel c.args.query) (Err Closed) w.state) c.self.view_is
    (inl (
      was_closed (setting_seen c.self.inside.bits c.self.inside.room c.self.inside.journal c.self.inside.places.items)
          (state_seen c.self.inside.bits c.self.inside.journal c.self.inside.places.items c.self.inside.queries.items) c.args.query
          (query_seen c.self.inside.bits c.index-held.result.now)
          (seen_there c.self.inside.bits c.self.inside.room c.self.inside.journal c.self.inside.places.items c.self.inside.queries.items
          c.self.invariant c.args.query c.index-held.result.now
          (found_there c.self.inside.queries.items c.args.query c.index-held.result.now
          (omega (arith, c.if-number-len.false, c.len.ensures, c.self.inside.queries.ok.0)) c.index-held.ensures))
          c.if-held.true,
      refl,
    ))

pub cancel_query-count-requires : goal.cancel_query-count-requires
cancel_query-count-requires g c = (
  omega arith,
  (
    omega arith,
    (
      c.self.invariant.few_words,
      front_is_live c.self.inside.bits c.self.inside.room c.self.inside.journal c.self.inside.places.items c.self.inside.queries.items
          c.self.invariant c.args.query c.index_mut.result.now
          (found_there c.self.inside.queries.items c.args.query c.index_mut.result.now
          (omega (arith, c.if-number-len.false, c.len.ensures, c.self.inside.queries.ok.0)) c.index_mut.ensures.value),
    ),
  ),
)

pub invariant_of-self : goal.invariant_of-self
invariant_of-self g c =
    let i = c.self.inside in
    let held = c.index_mut.result.now in
    let there = found_there i.queries.items c.args.query held (omega (arith, c.if-number-len.false, c.len.ensures, i.queries.ok.0)) c.index_mut.ensures.value in
    let same = two_found i.queries.items c.args.query c.index-held.result.now held (omega (arith, c.if-number-len.false, c.len.ensures, i.queries.ok.0))
    c.index-held.ensures c.index_mut.ensures.value in
    cancel_keeps i.bits i.room i.journal c.cancel_query-count.new.journal i.places.items i.queries.items c.self.invariant c.args.query held there
    c.cancel_query-count.ensures.journal c.cancel_query-count.ensures.fronts c.cancel_query-count.new.held
    c.cancel_query-count.ensures.cancelled (ap (λ (each : Held g.row.W). each.cancelled) (sym same) ∙ c.if-held.false)

pub returns-clause-step : goal.returns-clause-step
returns-clause-step g c =
    let i = c.self.inside in
    let held = c.index_mut.result.now in
    let there = found_there i.queries.items c.args.query held (omega (arith, c.if-number-len.false, c.len.ensures, i.queries.ok.0)) c.index_mut.ensures.value in
    let same = two_found i.queries.items c.args.query c.index-held.result.now held (omega (arith, c.if-number-len.false, c.len.ensures, i.queries.ok.0))
    c.index-held.ensures c.index_mut.ensures.value in
    subst (λ (w : WorldView). WorldStep w.setting w.state (Cancel c.args.query) (Ok (told.Cancelled c.cancel_query-count.result))
    (state_seen i.bits c.cancel_query-count.new.journal i.places.items (slice_set i.queries.items c.args.query c.cancel_query-count.new.held)))
    c.self.view_is
    (cancel_step i.bits i.room i.journal c.cancel_query-count.new.journal i.places.items i.queries.items c.self.invariant c.args.query held there
    c.cancel_query-count.ensures.journal c.cancel_query-count.ensures.fronts c.cancel_query-count.new.held
    c.cancel_query-count.ensures.cancelled (ap (λ (each : Held g.row.W). each.cancelled) (sym same) ∙ c.if-held.false)
    c.cancel_query-count.result c.cancel_query-count.ensures.given)
