-- The next hit of a query that goes on and has its sources is given.
use Rattle.std.proofs.Common.{inl, refl, subst, arith}
use Rattle.std.specs.Prelude.{Err, Ok, slice_set}
use Rattle.world_model.specs.declared.refused.Refused.TheVariants.{NotPinned}
use Rattle.world_model.specs.Events.{Give}
use Rattle.world_model.specs.WorldStep.{WorldStep}
use Rattle.world_parts.specs.Seen.{query_seen}
use Rattle.gph_world.specs.Seen.{setting_seen, state_seen}
use Rattle.gph_world.specs.Worlds.{WorldView}
use Rattle.gph_world.proofs.FoundLemmas.{found_gives_keeps, found_gives_step, found_sources}
use Rattle.gph_world.proofs.GatherLemmas.{none_gathered}
use Rattle.gph_world.proofs.GiveLemmas.{give_not_pinned}
use Rattle.world_parts.proofs.ListLemmas.{found_there}
use Rattle.gph_world.proofs.HeldLemmas.{seen_there}
use Rattle.gph_world.proofs.world.World.give.Goals as goal

pub returns-in_default-clause-step : goal.returns-in_default-clause-step
returns-in_default-clause-step g c =
    let i = c.self.inside in
    let held = c.index-held.result.now in
    let there = found_there i.queries.items c.args.query held (omega (arith, c.if-number-len.false, c.len.ensures, i.queries.ok.0)) c.index-held.ensures in
    subst (λ (w : WorldView). WorldStep w.setting w.state (Give c.args.query) (Err NotPinned) w.state) c.self.view_is
    (inl (
      give_not_pinned (setting_seen i.bits i.room i.journal i.places.items) (state_seen i.bits i.journal i.places.items i.queries.items) c.args.query
          (query_seen i.bits held) (seen_there i.bits i.room i.journal i.places.items i.queries.items c.self.invariant c.args.query held there)
          c.if-held.false
          (none_gathered i.bits i.room i.journal i.places.items i.queries.items c.self.invariant c.args.query held there c.if-held.false
          c.in_default.is),
      refl,
    ))

pub give_held-requires : goal.give_held-requires
give_held-requires g c =
    let i = c.self.inside in
    let sources = found_sources i.bits i.room i.journal i.places.items i.queries.items c.self.invariant c.args.query c.index-held.result.now
    c.index_mut.result.now (omega (arith, c.if-number-len.false, c.len.ensures, i.queries.ok.0)) c.index-held.ensures c.index_mut.ensures.value
    c.if-held.false c.in-Some._gather c.in-Some.is c.len-shards.result (omega (arith, c.len-shards.ensures, i.places.ok.0)) in
    (omega (arith, c.self.invariant.few_words), (c.self.invariant.few_words, sources))

pub invariant_of-self : goal.invariant_of-self
invariant_of-self g c =
    let i = c.self.inside in
    found_gives_keeps i.bits i.room i.journal i.places.items i.queries.items c.self.invariant c.args.query c.index-held.result.now
    c.index_mut.result.now (omega (arith, c.if-number-len.false, c.len.ensures, i.queries.ok.0)) c.index-held.ensures c.index_mut.ensures.value
    c.if-held.false c.length-entries.ensures.journal c.versions_follow_the_history.ensures.few c.give_held.new.held c.give_held.result
    c.give_held.ensures

pub returns-clause-step : goal.returns-clause-step
returns-clause-step g c =
    let i = c.self.inside in
    subst (λ (w : WorldView). WorldStep w.setting w.state (Give c.args.query) (Ok c.give_held.result)
    (state_seen i.bits i.journal i.places.items (slice_set i.queries.items c.args.query c.give_held.new.held))) c.self.view_is
    (found_gives_step i.bits i.room i.journal i.places.items i.queries.items c.self.invariant c.args.query c.index-held.result.now
    c.index_mut.result.now (omega (arith, c.if-number-len.false, c.len.ensures, i.queries.ok.0)) c.index-held.ensures c.index_mut.ensures.value
    c.if-held.false c.length-entries.ensures.journal c.versions_follow_the_history.ensures.few c.give_held.new.held c.give_held.result
    c.give_held.ensures)
