-- A shard is pinned by a query that goes on.
use Rattle.std.proofs.Common.{◌≡◌, ◌+◌, ◌<◌, ◌≤◌, length, sym, ap, subst, ◌∙◌, arith, rules}
use Rattle.std.specs.Prelude.{Err, Ok, slice_set}
use Rattle.world_model.specs.declared.refused.Refused.TheVariants.{NoMemory}
use Rattle.world_model.specs.declared.told.Told.TheVariants as told
use Rattle.world_model.specs.Events.{Pin}
use Rattle.world_model.specs.WorldStep.{WorldStep}
use Rattle.gph_world.specs.Behind.{entries_behind}
use Rattle.world_parts.specs.Pinned.{missing}
use Rattle.gph_world.specs.Seen.{setting_seen, state_seen}
use Rattle.gph_world.specs.Worlds.{WorldView}
use Rattle.gph_world.proofs.AdvanceLemmas.{may_come}
use Rattle.world_parts.proofs.ListLemmas.{found_there}
use Rattle.gph_world.proofs.PinCallLemmas.{found_behind, found_lacks_keeps, found_lacks_step, found_may, found_pins_keeps}
use Rattle.gph_world.proofs.PinCallLemmas.{found_pins_setting, found_pins_step}
use Rattle.gph_world.proofs.PinLemmas.{bring_lacks, front_open, lacks_keeps}
use Rattle.gph_world.proofs.PinLemmas.{pin_found, pin_free, pinned_step, own_are, pins_few, version_comes}
use Rattle.gph_world.proofs.world.World.pin.Goals as goal

pub index-requires : goal.index-requires
index-requires g c =
    let i = c.self.inside in
    let below : c.args.shard < length i.places.items = omega (arith, c.if-place-len.false, c.len.ensures, i.places.ok.0) in
    let low : c.args.query < length i.queries.items = omega (arith, c.if-number-len.false, c.len-2.ensures, i.queries.ok.0) in
    let held = c.index-held.result.now in
    let there = found_there i.queries.items c.args.query held low c.index-held.ensures in
    omega (
      arith,
      below,
      own_are i.bits i.room i.journal i.places.items i.queries.items c.self.invariant c.args.query held there c.args.shard below
          c.if-held.false,
      held.pins.ok.0,
    )

pub unpinned-left-requires : goal.unpinned-left-requires
unpinned-left-requires g c =
    let i = c.self.inside in
    let below : c.args.shard < length i.places.items = omega (arith, c.if-place-len.false, c.len.ensures, i.places.ok.0) in
    let low : c.args.query < length i.queries.items = omega (arith, c.if-number-len.false, c.len-2.ensures, i.queries.ok.0) in
    let held = c.index-held.result.now in
    let there = found_there i.queries.items c.args.query held low c.index-held.ensures in (
      omega arith,
      omega (
        arith,
        pins_few i.bits i.room i.journal i.places.items i.queries.items c.self.invariant c.args.query held there c.args.shard below c.if-held.false,
        ap length c.deref.ensures.value,
      ),
    )

pub returns-then-is_some-clause-step : goal.returns-then-is_some-clause-step
returns-then-is_some-clause-step g c =
    let i = c.self.inside in
    let below : c.args.shard < length i.places.items = omega (arith, c.if-place-len.false, c.len.ensures, i.places.ok.0) in
    let low : c.args.query < length i.queries.items = omega (arith, c.if-number-len.false, c.len-2.ensures, i.queries.ok.0) in
    let held = c.index-held.result.now in
    let there = found_there i.queries.items c.args.query held low c.index-held.ensures in
    subst (λ (w : WorldView). WorldStep w.setting w.state (Pin c.args.query c.args.shard) (Ok (told.Pinned c.unpinned-left.result)) w.state) c.self.view_is
    (pinned_step i.bits i.room i.journal i.places.items i.queries.items c.self.invariant c.args.query held there c.args.shard below c.if-held.false
    c.index.result.now (pin_found i.bits i.room i.journal i.places.items i.queries.items c.self.invariant c.args.query held there c.args.shard below
    c.if-held.false c.index.result.now c.index.ensures)
    (sym c.is_some.ensures ∙ c.if-is_some.true) c.unpinned-left.result (c.unpinned-left.ensures ∙ ap missing c.deref.ensures.value))

pub unreachable-requires : goal.unreachable-requires
unreachable-requires g c =
    let i = c.self.inside in
    let below : c.args.shard < length i.places.items = omega (arith, c.if-place-len.false, c.len.ensures, i.places.ok.0) in
    let low : c.args.query < length i.queries.items = omega (arith, c.if-number-len.false, c.len-2.ensures, i.queries.ok.0) in
    let held = c.index-held.result.now in
    let there = found_there i.queries.items c.args.query held low c.index-held.ensures in
    let free = pin_free i.bits i.room i.journal i.places.items i.queries.items c.self.invariant c.args.query held there c.args.shard below c.if-held.false
    c.index.result.now c.index.ensures (sym c.is_some.ensures ∙ c.if-is_some.false) in
    front_open i.bits i.room i.journal i.places.items i.queries.items c.self.invariant c.args.query held there c.args.shard below c.if-held.false
    free c.in_default.is

pub bring-requires : goal.bring-requires
bring-requires g c =
    let i = c.self.inside in
    let below : c.args.shard < length i.places.items = omega (arith, c.if-place-len.false, c.len.ensures, i.places.ok.0) in
    let low : c.args.query < length i.queries.items = omega (arith, c.if-number-len.false, c.len-2.ensures, i.queries.ok.0) in
    let held = c.index-held.result.now in
    let there = found_there i.queries.items c.args.query held low c.index-held.ensures in
    let free = pin_free i.bits i.room i.journal i.places.items i.queries.items c.self.invariant c.args.query held there c.args.shard below c.if-held.false
    c.index.result.now c.index.ensures (sym c.is_some.ensures ∙ c.if-is_some.false) in
    let place = c.index_mut.result.now in
    let stands = found_there i.places.items c.args.shard place below c.index_mut.ensures.value in
    let may = may_come i.bits i.room i.journal i.places.items i.queries.items c.self.invariant c.args.query held there c.in-Some.front c.in-Some.is
    c.args.shard place stands in (
      omega (arith, c.self.invariant.few_words),
      (
        omega (arith, c.self.invariant.few_words),
        (
          omega (arith, c.self.invariant.few_words),
          (
            may.0,
            (
              may.1,
              version_comes i.bits i.room i.journal i.places.items i.queries.items c.self.invariant c.args.query held there c.args.shard below c.if-held.false
                  free c.in-Some.front c.in-Some.is place stands,
            ),
          ),
        ),
      ),
    )

pub invariant_of-self : goal.invariant_of-self
invariant_of-self g c =
    let i = c.self.inside in
    let below : c.args.shard < length i.places.items = omega (arith, c.if-place-len.false, c.len.ensures, i.places.ok.0) in
    let low : c.args.query < length i.queries.items = omega (arith, c.if-number-len.false, c.len-2.ensures, i.queries.ok.0) in
    let held = c.index-held.result.now in
    let there = found_there i.queries.items c.args.query held low c.index-held.ensures in
    let free = pin_free i.bits i.room i.journal i.places.items i.queries.items c.self.invariant c.args.query held there c.args.shard below c.if-held.false
    c.index.result.now c.index.ensures (sym c.is_some.ensures ∙ c.if-is_some.false) in
    let place = c.index_mut.result.now in
    let stands = found_there i.places.items c.args.shard place below c.index_mut.ensures.value in
    lacks_keeps i.bits i.room i.journal i.places.items i.queries.items c.self.invariant c.args.query held there c.args.shard below c.if-held.false
    free c.in-Some.front c.in-Some.is place stands c.bring.new.place c.in_default-bring.ensures.lacks

pub returns-in_default-bring-clause-step : goal.returns-in_default-bring-clause-step
returns-in_default-bring-clause-step g c =
    let i = c.self.inside in
    let below : c.args.shard < length i.places.items = omega (arith, c.if-place-len.false, c.len.ensures, i.places.ok.0) in
    let low : c.args.query < length i.queries.items = omega (arith, c.if-number-len.false, c.len-2.ensures, i.queries.ok.0) in
    let held = c.index-held.result.now in
    let there = found_there i.queries.items c.args.query held low c.index-held.ensures in
    let free = pin_free i.bits i.room i.journal i.places.items i.queries.items c.self.invariant c.args.query held there c.args.shard below c.if-held.false
    c.index.result.now c.index.ensures (sym c.is_some.ensures ∙ c.if-is_some.false) in
    let place = c.index_mut.result.now in
    let stands = found_there i.places.items c.args.shard place below c.index_mut.ensures.value in
    subst (λ (w : WorldView). WorldStep w.setting w.state (Pin c.args.query c.args.shard) (Err NoMemory)
    (state_seen i.bits i.journal (slice_set i.places.items c.args.shard c.bring.new.place) i.queries.items)) c.self.view_is
    (bring_lacks i.bits i.room i.journal i.places.items i.queries.items c.self.invariant c.args.query held there c.args.shard below c.if-held.false
    free c.in-Some.front c.in-Some.is place stands c.bring.new.place c.in_default-bring.ensures.lacks)

pub returns-in_default-bring-clause-bound : goal.returns-in_default-bring-clause-bound
returns-in_default-bring-clause-bound g c =
    let i = c.self.inside in
    subst (λ (w : WorldView). c.bring.new.steps ≤ c.args.upkeep.now + entries_behind w.state c.args.query c.args.shard) c.self.view_is
    (found_behind i.bits i.room i.journal i.places.items i.queries.items c.self.invariant c.args.query c.args.shard
    (omega (arith, c.if-number-len.false, c.len-2.ensures, i.queries.ok.0)) (omega (arith, c.if-place-len.false, c.len.ensures, i.places.ok.0))
    c.index-held.result.now c.index-held.ensures c.in-Some.front c.in-Some.is c.index_mut.result.now c.index_mut.ensures.value
    c.args.upkeep.now c.bring.new.steps c.bring.ensures.bound)

pub pin_held-requires : goal.pin_held-requires
pin_held-requires g c =
    let i = c.self.inside in
    let k = c.self.invariant in
    let may = found_may i.bits i.room i.journal i.places.items i.queries.items c.self.invariant c.args.query c.args.shard
    (omega (arith, c.if-number-len.false, c.len-2.ensures, i.queries.ok.0)) (omega (arith, c.if-place-len.false, c.len.ensures, i.places.ok.0))
    c.index-held.result.now c.index-held.ensures c.in-Some.front c.in-Some.is c.index_mut.result.now c.index_mut.ensures.value
    c.if-held.false c.index.result.now c.index.ensures (sym c.is_some.ensures ∙ c.if-is_some.false) c.bring.new.place c.in-Ok.ensures.came
    c.in-Ok.version c.in-Ok.ensures.version c.index_mut-held.result.now c.index_mut-held.ensures.value in
    (search rules, (search rules, (search rules, (k.few_words, (k.some_room, (k.small_room, may))))))

pub invariant_of-self-in_default-pin_held : goal.invariant_of-self-in_default-pin_held
invariant_of-self-in_default-pin_held g c =
    let i = c.self.inside in
    found_lacks_keeps i.bits i.room i.journal i.places.items i.queries.items c.self.invariant c.args.query c.args.shard
    (omega (arith, c.if-number-len.false, c.len-2.ensures, i.queries.ok.0)) (omega (arith, c.if-place-len.false, c.len.ensures, i.places.ok.0))
    c.index-held.result.now c.index-held.ensures c.in-Some.front c.in-Some.is c.index_mut.result.now c.index_mut.ensures.value
    c.if-held.false c.index.result.now c.index.ensures (sym c.is_some.ensures ∙ c.if-is_some.false) c.bring.new.place c.in-Ok.ensures.came
    c.in-Ok.version c.in-Ok.ensures.version c.index_mut-held.result.now c.index_mut-held.ensures.value
    c.pin_held.new.journal c.pin_held.new.held
    c.in_default-pin_held.ensures.journal c.in_default-pin_held.ensures.held

pub returns-in_default-pin_held-clause-step : goal.returns-in_default-pin_held-clause-step
returns-in_default-pin_held-clause-step g c =
    let i = c.self.inside in
    subst (λ (w : WorldView). WorldStep w.setting w.state (Pin c.args.query c.args.shard) (Err NoMemory)
    (state_seen i.bits c.pin_held.new.journal (slice_set i.places.items c.args.shard c.bring.new.place)
    (slice_set i.queries.items c.args.query c.pin_held.new.held))) c.self.view_is
    (found_lacks_step i.bits i.room i.journal i.places.items i.queries.items c.self.invariant c.args.query c.args.shard
    (omega (arith, c.if-number-len.false, c.len-2.ensures, i.queries.ok.0)) (omega (arith, c.if-place-len.false, c.len.ensures, i.places.ok.0))
    c.index-held.result.now c.index-held.ensures c.in-Some.front c.in-Some.is c.index_mut.result.now c.index_mut.ensures.value
    c.if-held.false c.index.result.now c.index.ensures (sym c.is_some.ensures ∙ c.if-is_some.false) c.bring.new.place c.in-Ok.ensures.came
    c.in-Ok.version c.in-Ok.ensures.version c.index_mut-held.result.now c.index_mut-held.ensures.value
    c.pin_held.new.journal c.pin_held.new.held
    c.in_default-pin_held.ensures.journal c.in_default-pin_held.ensures.held)

pub returns-in_default-pin_held-clause-bound : goal.returns-in_default-pin_held-clause-bound
returns-in_default-pin_held-clause-bound g c =
    let i = c.self.inside in
    subst (λ (w : WorldView). c.bring.new.steps ≤ c.args.upkeep.now + entries_behind w.state c.args.query c.args.shard) c.self.view_is
    (found_behind i.bits i.room i.journal i.places.items i.queries.items c.self.invariant c.args.query c.args.shard
    (omega (arith, c.if-number-len.false, c.len-2.ensures, i.queries.ok.0)) (omega (arith, c.if-place-len.false, c.len.ensures, i.places.ok.0))
    c.index-held.result.now c.index-held.ensures c.in-Some.front c.in-Some.is c.index_mut.result.now c.index_mut.ensures.value
    c.args.upkeep.now c.bring.new.steps c.bring.ensures.bound)

pub invariant_of-self-2 : goal.invariant_of-self-2
invariant_of-self-2 g c =
    let i = c.self.inside in
    found_pins_keeps i.bits i.room i.journal i.places.items i.queries.items c.self.invariant c.args.query c.args.shard
    (omega (arith, c.if-number-len.false, c.len-2.ensures, i.queries.ok.0)) (omega (arith, c.if-place-len.false, c.len.ensures, i.places.ok.0))
    c.index-held.result.now c.index-held.ensures c.in-Some.front c.in-Some.is c.index_mut.result.now c.index_mut.ensures.value
    c.if-held.false c.index.result.now c.index.ensures (sym c.is_some.ensures ∙ c.if-is_some.false) c.bring.new.place c.in-Ok.ensures.came
    c.in-Ok.version c.in-Ok.ensures.version c.index_mut-held.result.now c.index_mut-held.ensures.value
    c.pin_held.new.journal c.pin_held.new.held
    c.in-Ok-pin_held.ensures.pins

pub returns-clause-setting : goal.returns-clause-setting
returns-clause-setting g c =
    let i = c.self.inside in
    subst (λ (w : WorldView). setting_seen i.bits i.room c.pin_held.new.journal (slice_set i.places.items c.args.shard c.bring.new.place) ≡ w.setting)
    c.self.view_is
    (found_pins_setting i.bits i.room i.journal i.places.items i.queries.items c.self.invariant c.args.query c.args.shard
    (omega (arith, c.if-number-len.false, c.len-2.ensures, i.queries.ok.0)) (omega (arith, c.if-place-len.false, c.len.ensures, i.places.ok.0))
    c.index-held.result.now c.index-held.ensures c.in-Some.front c.in-Some.is c.index_mut.result.now c.index_mut.ensures.value
    c.if-held.false c.index.result.now c.index.ensures (sym c.is_some.ensures ∙ c.if-is_some.false) c.bring.new.place c.in-Ok.ensures.came
    c.in-Ok.version c.in-Ok.ensures.version c.index_mut-held.result.now c.index_mut-held.ensures.value
    c.pin_held.new.journal c.pin_held.new.held
    c.in-Ok-pin_held.ensures.pins)

pub returns-clause-step : goal.returns-clause-step
returns-clause-step g c =
    let i = c.self.inside in
    subst (λ (w : WorldView). WorldStep w.setting w.state (Pin c.args.query c.args.shard) (Ok (told.Pinned c.in-Ok-pin_held.left))
    (state_seen i.bits c.pin_held.new.journal (slice_set i.places.items c.args.shard c.bring.new.place)
    (slice_set i.queries.items c.args.query c.pin_held.new.held))) c.self.view_is
    (found_pins_step i.bits i.room i.journal i.places.items i.queries.items c.self.invariant c.args.query c.args.shard
    (omega (arith, c.if-number-len.false, c.len-2.ensures, i.queries.ok.0)) (omega (arith, c.if-place-len.false, c.len.ensures, i.places.ok.0))
    c.index-held.result.now c.index-held.ensures c.in-Some.front c.in-Some.is c.index_mut.result.now c.index_mut.ensures.value
    c.if-held.false c.index.result.now c.index.ensures (sym c.is_some.ensures ∙ c.if-is_some.false) c.bring.new.place c.in-Ok.ensures.came
    c.in-Ok.version c.in-Ok.ensures.version c.index_mut-held.result.now c.index_mut-held.ensures.value
    c.pin_held.new.journal c.pin_held.new.held
    c.in-Ok-pin_held.ensures.pins c.in-Ok-pin_held.left c.in-Ok-pin_held.ensures.left)

pub returns-clause-bound : goal.returns-clause-bound
returns-clause-bound g c =
    let i = c.self.inside in
    subst (λ (w : WorldView). c.bring.new.steps ≤ c.args.upkeep.now + entries_behind w.state c.args.query c.args.shard) c.self.view_is
    (found_behind i.bits i.room i.journal i.places.items i.queries.items c.self.invariant c.args.query c.args.shard
    (omega (arith, c.if-number-len.false, c.len-2.ensures, i.queries.ok.0)) (omega (arith, c.if-place-len.false, c.len.ensures, i.places.ok.0))
    c.index-held.result.now c.index-held.ensures c.in-Some.front c.in-Some.is c.index_mut.result.now c.index_mut.ensures.value
    c.args.upkeep.now c.bring.new.steps c.bring.ensures.bound)
