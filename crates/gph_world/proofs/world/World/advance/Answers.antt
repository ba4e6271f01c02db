-- A shard comes to the front of a query that goes on.
use Rattle.std.proofs.Common.{◌+◌, ◌<◌, ◌≤◌, inl, length, refl, subst, arith}
use Rattle.std.specs.Prelude.{Err, Ok, slice_set}
use Rattle.world_model.specs.declared.refused.Refused.TheVariants.{Closed, NoMemory}
use Rattle.world_model.specs.declared.told.Told.TheVariants as told
use Rattle.world_model.specs.Events.{Advance}
use Rattle.world_model.specs.WorldStep.{WorldStep}
use Rattle.world_parts.specs.Seen.{query_seen}
use Rattle.gph_world.specs.Seen.{setting_seen, state_seen}
use Rattle.gph_world.specs.Behind.{entries_behind}
use Rattle.gph_world.specs.Worlds.{WorldView}
use Rattle.gph_world.proofs.AdvanceLemmas.{advance_closed, advance_lacks, advance_ok, may_come, steps_behind}
use Rattle.world_parts.proofs.ListLemmas.{found_there}
use Rattle.gph_world.proofs.HeldLemmas.{seen_there}
use Rattle.gph_world.proofs.PlaceLemmas.{stepped_keeps}
use Rattle.gph_world.proofs.world.World.advance.Goals as goal

pub returns-then-held-clause-step : goal.returns-then-held-clause-step
returns-then-held-clause-step g c =
    subst (λ (w : WorldView). WorldStep w.setting w.state (Advance c.args.query c.args.shard) (Err Closed) w.state) c.self.view_is
    (inl (
      advance_closed (setting_seen c.self.inside.bits c.self.inside.room c.self.inside.journal c.self.inside.places.items)
          (state_seen c.self.inside.bits c.self.inside.journal c.self.inside.places.items c.self.inside.queries.items) c.args.query c.args.shard
          (omega (arith, c.if-place-len.false, c.len.ensures, c.self.inside.places.ok.0)) (query_seen c.self.inside.bits c.index-held.result.now)
          (seen_there c.self.inside.bits c.self.inside.room c.self.inside.journal c.self.inside.places.items c.self.inside.queries.items
          c.self.invariant c.args.query c.index-held.result.now (found_there c.self.inside.queries.items c.args.query c.index-held.result.now
          (omega (arith, c.if-number-len.false, c.len-2.ensures, c.self.inside.queries.ok.0)) c.index-held.ensures))
          c.if-held.true,
      refl,
    ))

pub come-requires : goal.come-requires
come-requires g c = (
  omega arith,
  (
    omega arith,
    may_come c.self.inside.bits c.self.inside.room c.self.inside.journal c.self.inside.places.items c.self.inside.queries.items
        c.self.invariant c.args.query c.index-held.result.now
        (found_there c.self.inside.queries.items c.args.query c.index-held.result.now
        (omega (arith, c.if-number-len.false, c.len-2.ensures, c.self.inside.queries.ok.0)) c.index-held.ensures)
        c.in-Some.front c.in-Some.is c.args.shard c.index_mut.result.now (found_there c.self.inside.places.items c.args.shard c.index_mut.result.now
        (omega (arith, c.if-place-len.false, c.len.ensures, c.self.inside.places.ok.0)) c.index_mut.ensures.value),
  ),
)

pub returns-in_default-come-clause-step : goal.returns-in_default-come-clause-step
returns-in_default-come-clause-step g c =
    subst (λ (w : WorldView). WorldStep w.setting w.state (Advance c.args.query c.args.shard) (Err NoMemory)
    (state_seen c.self.inside.bits c.self.inside.journal (slice_set c.self.inside.places.items c.args.shard c.come.new.place)
    c.self.inside.queries.items)) c.self.view_is
    (advance_lacks c.self.inside.bits c.self.inside.room c.self.inside.journal c.self.inside.places.items c.self.inside.queries.items
    c.self.invariant c.args.query c.index-held.result.now
    (found_there c.self.inside.queries.items c.args.query c.index-held.result.now
    (omega (arith, c.if-number-len.false, c.len-2.ensures, c.self.inside.queries.ok.0)) c.index-held.ensures)
    c.in-Some.front c.in-Some.is c.args.shard c.index_mut.result.now (found_there c.self.inside.places.items c.args.shard c.index_mut.result.now
    (omega (arith, c.if-place-len.false, c.len.ensures, c.self.inside.places.ok.0)) c.index_mut.ensures.value)
    (omega (arith, c.if-place-len.false, c.len.ensures, c.self.inside.places.ok.0)) c.if-held.false c.come.new.place c.in_default-come.ensures.unchanged)

pub invariant_of-self-2 : goal.invariant_of-self-2
invariant_of-self-2 g c =
    let i = c.self.inside in
    let held = c.index-held.result.now in
    let there = found_there i.queries.items c.args.query held (omega (arith, c.if-number-len.false, c.len-2.ensures, i.queries.ok.0)) c.index-held.ensures in
    let place = c.index_mut.result.now in
    let low : c.args.shard < length i.places.items = omega (arith, c.if-place-len.false, c.len.ensures, i.places.ok.0) in
    let stands = found_there i.places.items c.args.shard place low c.index_mut.ensures.value in
    stepped_keeps i.bits i.room i.journal i.places.items i.queries.items c.args.shard c.come.new.place c.self.invariant (Advance c.args.query c.args.shard)
    (Ok (told.Advanced c.in-Ok.at)) tt
    (advance_ok i.bits i.room i.journal i.places.items i.queries.items c.self.invariant c.args.query held there c.in-Some.front c.in-Some.is
    c.args.shard place stands low c.if-held.false c.come.new.place c.in-Ok.ensures.came c.in-Ok.at c.in-Ok.ensures.at)

pub returns-clause-step : goal.returns-clause-step
returns-clause-step g c =
    let i = c.self.inside in
    let held = c.index-held.result.now in
    let there = found_there i.queries.items c.args.query held (omega (arith, c.if-number-len.false, c.len-2.ensures, i.queries.ok.0)) c.index-held.ensures in
    let place = c.index_mut.result.now in
    let low : c.args.shard < length i.places.items = omega (arith, c.if-place-len.false, c.len.ensures, i.places.ok.0) in
    let stands = found_there i.places.items c.args.shard place low c.index_mut.ensures.value in
    subst (λ (w : WorldView). WorldStep w.setting w.state (Advance c.args.query c.args.shard) (Ok (told.Advanced c.in-Ok.at))
    (state_seen i.bits i.journal (slice_set i.places.items c.args.shard c.come.new.place) i.queries.items)) c.self.view_is
    (advance_ok i.bits i.room i.journal i.places.items i.queries.items c.self.invariant c.args.query held there c.in-Some.front c.in-Some.is
    c.args.shard place stands low c.if-held.false c.come.new.place c.in-Ok.ensures.came c.in-Ok.at c.in-Ok.ensures.at)

pub returns-in_default-come-clause-bound : goal.returns-in_default-come-clause-bound
returns-in_default-come-clause-bound g c =
    subst (λ (w : WorldView). c.come.new.steps ≤ c.args.steps.now + entries_behind w.state c.args.query c.args.shard) c.self.view_is
    (steps_behind c.self.inside.bits c.self.inside.room c.self.inside.journal c.self.inside.places.items c.self.inside.queries.items c.self.invariant
    c.args.query c.index-held.result.now
    (found_there c.self.inside.queries.items c.args.query c.index-held.result.now
    (omega (arith, c.if-number-len.false, c.len-2.ensures, c.self.inside.queries.ok.0)) c.index-held.ensures)
    c.in-Some.front c.in-Some.is c.args.shard c.index_mut.result.now
    (found_there c.self.inside.places.items c.args.shard c.index_mut.result.now
    (omega (arith, c.if-place-len.false, c.len.ensures, c.self.inside.places.ok.0)) c.index_mut.ensures.value)
    c.args.steps.now c.come.new.steps c.come.ensures.bound)

pub returns-clause-bound : goal.returns-clause-bound
returns-clause-bound g c =
    subst (λ (w : WorldView). c.come.new.steps ≤ c.args.steps.now + entries_behind w.state c.args.query c.args.shard) c.self.view_is
    (steps_behind c.self.inside.bits c.self.inside.room c.self.inside.journal c.self.inside.places.items c.self.inside.queries.items c.self.invariant
    c.args.query c.index-held.result.now
    (found_there c.self.inside.queries.items c.args.query c.index-held.result.now
    (omega (arith, c.if-number-len.false, c.len-2.ensures, c.self.inside.queries.ok.0)) c.index-held.ensures)
    c.in-Some.front c.in-Some.is c.args.shard c.index_mut.result.now
    (found_there c.self.inside.places.items c.args.shard c.index_mut.result.now
    (omega (arith, c.if-place-len.false, c.len.ensures, c.self.inside.places.ok.0)) c.index_mut.ensures.value)
    c.args.steps.now c.come.new.steps c.come.ensures.bound)
