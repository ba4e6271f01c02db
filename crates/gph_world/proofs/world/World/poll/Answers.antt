-- A source of a query that goes on and has its sources is polled.
use Rattle.std.proofs.Common.{◌<◌, inl, length, refl, subst, arith}
use Rattle.std.specs.Prelude.{Err, Ok, slice_set}
use Rattle.world_model.specs.declared.refused.Refused.TheVariants.{NotPinned}
use Rattle.world_model.specs.Events.{Poll}
use Rattle.world_model.specs.WorldStep.{WorldStep}
use Rattle.gph_world.specs.Rising.{RiseByReads}
use Rattle.world_parts.specs.Seen.{query_seen}
use Rattle.gph_world.specs.Seen.{setting_seen, state_seen}
use Rattle.gph_world.specs.Worlds.{WorldView}
use Rattle.gph_world.proofs.FoundLemmas.{found_polls_keeps, found_polls_rise, found_polls_step, found_sources}
use Rattle.gph_world.proofs.GatherLemmas.{none_gathered}
use Rattle.gph_world.proofs.PollLemmas.{poll_not_pinned}
use Rattle.world_parts.proofs.ListLemmas.{found_there}
use Rattle.gph_world.proofs.HeldLemmas.{seen_there}
use Rattle.gph_world.proofs.world.World.poll.Goals as goal

pub returns-in_default-clause-step : goal.returns-in_default-clause-step
returns-in_default-clause-step g c =
    let i = c.self.inside in
    let below : c.args.shard < length i.places.items = omega (arith, c.if-place-len.false, c.len.ensures, i.places.ok.0) in
    let held = c.index-held.result.now in
    let there = found_there i.queries.items c.args.query held (omega (arith, c.if-number-len.false, c.len-2.ensures, i.queries.ok.0)) c.index-held.ensures in
    subst (λ (w : WorldView). WorldStep w.setting w.state (Poll c.args.query c.args.shard c.args.budget) (Err NotPinned) w.state) c.self.view_is
    (inl (
      poll_not_pinned (setting_seen i.bits i.room i.journal i.places.items) (state_seen i.bits i.journal i.places.items i.queries.items) c.args.query
          c.args.shard
          c.args.budget below
          (query_seen i.bits held) (seen_there i.bits i.room i.journal i.places.items i.queries.items c.self.invariant c.args.query held there)
          c.if-held.false
          (none_gathered i.bits i.room i.journal i.places.items i.queries.items c.self.invariant c.args.query held there c.if-held.false
          c.in_default.is),
      refl,
    ))

pub poll_held-requires : goal.poll_held-requires
poll_held-requires g c =
    let i = c.self.inside in
    let sources = found_sources i.bits i.room i.journal i.places.items i.queries.items c.self.invariant c.args.query c.index-held.result.now
    c.index_mut.result.now (omega (arith, c.if-number-len.false, c.len-2.ensures, i.queries.ok.0)) c.index-held.ensures c.index_mut.ensures.value
    c.if-held.false c.in-Some._gather c.in-Some.is c.len-shards.result (omega (arith, c.len-shards.ensures, i.places.ok.0)) in
    let below : c.args.shard < c.len-shards.result = omega (arith, c.if-place-len.false, c.len.ensures, c.len-shards.ensures) in
    (omega (arith, c.self.invariant.few_words), (c.self.invariant.few_words, (sources, (below, c.requires.budget))))

pub invariant_of-self : goal.invariant_of-self
invariant_of-self g c =
    let i = c.self.inside in
    found_polls_keeps i.bits i.room i.journal i.places.items i.queries.items c.self.invariant c.args.query c.index-held.result.now
    c.index_mut.result.now (omega (arith, c.if-number-len.false, c.len-2.ensures, i.queries.ok.0)) c.index-held.ensures c.index_mut.ensures.value
    c.if-held.false c.length-entries.ensures.journal c.versions_follow_the_history.ensures.few c.poll_held.new.held c.poll_held.result
    c.args.shard c.args.budget (omega (arith, c.if-place-len.false, c.len.ensures, i.places.ok.0)) c.requires.budget c.args.meters.now
    c.poll_held.new.meters c.poll_held.ensures

pub returns-clause-step : goal.returns-clause-step
returns-clause-step g c =
    let i = c.self.inside in
    subst (λ (w : WorldView). WorldStep w.setting w.state (Poll c.args.query c.args.shard c.args.budget) (Ok c.poll_held.result)
    (state_seen i.bits i.journal i.places.items (slice_set i.queries.items c.args.query c.poll_held.new.held))) c.self.view_is
    (found_polls_step i.bits i.room i.journal i.places.items i.queries.items c.self.invariant c.args.query c.index-held.result.now
    c.index_mut.result.now (omega (arith, c.if-number-len.false, c.len-2.ensures, i.queries.ok.0)) c.index-held.ensures c.index_mut.ensures.value
    c.if-held.false c.length-entries.ensures.journal c.versions_follow_the_history.ensures.few c.poll_held.new.held c.poll_held.result
    c.args.shard c.args.budget (omega (arith, c.if-place-len.false, c.len.ensures, i.places.ok.0)) c.requires.budget c.args.meters.now
    c.poll_held.new.meters c.poll_held.ensures)

pub returns-clause-ledger : goal.returns-clause-ledger
returns-clause-ledger g c =
    let i = c.self.inside in
    subst (λ (w : WorldView). RiseByReads w.state (state_seen i.bits i.journal i.places.items (slice_set i.queries.items c.args.query c.poll_held.new.held))
    c.args.meters.now c.poll_held.new.meters) c.self.view_is
    (found_polls_rise i.bits i.room i.journal i.places.items i.queries.items c.self.invariant c.args.query c.index-held.result.now
    c.index_mut.result.now (omega (arith, c.if-number-len.false, c.len-2.ensures, i.queries.ok.0)) c.index-held.ensures c.index_mut.ensures.value
    c.if-held.false c.length-entries.ensures.journal c.versions_follow_the_history.ensures.few c.poll_held.new.held c.poll_held.result
    c.args.shard c.args.budget (omega (arith, c.if-place-len.false, c.len.ensures, i.places.ok.0)) c.requires.budget c.args.meters.now
    c.poll_held.new.meters c.poll_held.ensures)
