-- A version is pinned, and with the last one the sources begin.
use Rattle.std.proofs.Common.{inl, length, refl, sym, ap, ◌∙◌, arith, rules, None}
use Rattle.std.proofs.lemmas.Option.{slice_get_within}
use Rattle.world_parts.specs.Cancels.{without_held}
use Rattle.world_parts.specs.Pinned.{missing}
use Rattle.world_parts.proofs.HeldLemmas.{held_is}
use Rattle.world_parts.proofs.PinLemmas.{PinVec, begins_on, known_with, last_held}
use Rattle.world_parts.proofs.SourceLemmas.{left_after}
use Rattle.world_parts.proofs.pinning.pin_held.Goals as goal

pub overflow_sub-left : goal.overflow_sub-left
overflow_sub-left g c = omega (
  arith,
  left_after c.args.held.now.pins.items _ c.args.shard c.args.version _ c.unpinned-left.ensures c.deref.ensures.value
      c.requires.not_pinned,
)

pub index_mut-requires : goal.index_mut-requires
index_mut-requires g c = omega (
  arith,
  slice_get_within c.args.held.now.pins.items c.args.shard None c.requires.not_pinned,
  c.deref.ensures.len,
  ap length c.deref.ensures.value,
)

pub returns-then-left-gt0-clause-left : goal.returns-then-left-gt0-clause-left
returns-then-left-gt0-clause-left g c = omega (
  arith,
  left_after c.args.held.now.pins.items _ c.args.shard c.args.version _ c.unpinned-left.ensures c.deref.ensures.value
      c.requires.not_pinned,
  ap (λ (pins : PinVec). missing pins.items) c.of.ensures,
)

pub returns-then-left-gt0-clause-pins : goal.returns-then-left-gt0-clause-pins
returns-then-left-gt0-clause-pins g c = inl (record {
  some = omega (
    arith,
    c.if-left-gt0.true,
    left_after c.args.held.now.pins.items _ c.args.shard c.args.version _ c.unpinned-left.ensures c.deref.ensures.value
        c.requires.not_pinned,
    ap (λ (pins : PinVec). missing pins.items) c.of.ensures,
  );
  pins = ap (λ (pins : PinVec). pins.items) c.of.ensures ∙ known_with c.args.held.now c.args.shard c.args.version c.requires.whole;
  rest = held_is _ _ refl refl refl refl refl refl refl refl refl;
  whole = record { pins = sym c.of.ensures; gather = c.requires.whole.gather };
  journal = refl;
})

pub begin-requires : goal.begin-requires
begin-requires g c =
    let may = begins_on c.args.held.now.ask c.args.held.now.pins.items _ c.args.shard c.args.version c.deref-2.ensures.value c.requires.few
    c.requires.not_pinned (c.requires.may (omega (
      arith,
      c.if-left-gt0.false,
      left_after c.args.held.now.pins.items _ c.args.shard c.args.version _ c.unpinned-left.ensures c.deref.ensures.value
          c.requires.not_pinned,
    ))) in
    (search rules, (search rules, (search rules, (c.requires.few_words, (c.requires.some_room, (c.requires.small_room, may))))))

pub index_mut-requires-2 : goal.index_mut-requires-2
index_mut-requires-2 g c = omega (
  arith,
  slice_get_within c.args.held.now.pins.items c.args.shard None c.requires.not_pinned,
  c.deref.ensures.len,
  ap length c.deref.ensures.value,
)

pub returns-in-Some-clause-left : goal.returns-in-Some-clause-left
returns-in-Some-clause-left g c = omega (
  arith,
  left_after c.args.held.now.pins.items _ c.args.shard c.args.version _ c.unpinned-left.ensures c.deref.ensures.value
      c.requires.not_pinned,
  ap (λ (pins : PinVec). missing pins.items) c.of-2.ensures,
)

pub returns-in-Some-clause-pins : goal.returns-in-Some-clause-pins
returns-in-Some-clause-pins g c =
    last_held c.args.room _ _ c.args.held.now _ c.args.shard c.args.version _ c.in_ok-begun.begun.gather
    (c.deref-2.ensures.value ∙ ap (λ (pins : PinVec). pins.items) c.requires.whole.pins)
    (omega (
      arith,
      c.if-left-gt0.false,
      left_after c.args.held.now.pins.items _ c.args.shard c.args.version _ c.unpinned-left.ensures c.deref.ensures.value
          c.requires.not_pinned,
      ap (λ (pins : PinVec). missing pins.items) c.of-2.ensures,
    ))
    (ap (λ (pins : PinVec). pins.items) c.of-2.ensures ∙ known_with c.args.held.now c.args.shard c.args.version c.requires.whole) c.in_ok-begun.ensures
    (held_is _ _ refl refl c.take.ensures.after refl refl refl refl refl c.of-3.ensures)
    (record { pins = sym c.of-2.ensures; gather = sym c.of-3.ensures })
    (c.close_front.ensures.closed ∙ sym (ap (without_held c.args.journal.now) (sym c.take.ensures.value ∙ c.in-Some.is)))
    c.close_front.ensures.fronts

pub returns-in_default-clause-left : goal.returns-in_default-clause-left
returns-in_default-clause-left g c = omega (
  arith,
  left_after c.args.held.now.pins.items _ c.args.shard c.args.version _ c.unpinned-left.ensures c.deref.ensures.value
      c.requires.not_pinned,
  ap (λ (pins : PinVec). missing pins.items) c.of-2.ensures,
)

pub returns-in_default-clause-pins : goal.returns-in_default-clause-pins
returns-in_default-clause-pins g c =
    last_held c.args.room _ _ c.args.held.now _ c.args.shard c.args.version _ c.in_ok-begun.begun.gather
    (c.deref-2.ensures.value ∙ ap (λ (pins : PinVec). pins.items) c.requires.whole.pins)
    (omega (
      arith,
      c.if-left-gt0.false,
      left_after c.args.held.now.pins.items _ c.args.shard c.args.version _ c.unpinned-left.ensures c.deref.ensures.value
          c.requires.not_pinned,
      ap (λ (pins : PinVec). missing pins.items) c.of-2.ensures,
    ))
    (ap (λ (pins : PinVec). pins.items) c.of-2.ensures ∙ known_with c.args.held.now c.args.shard c.args.version c.requires.whole) c.in_ok-begun.ensures
    (held_is _ _ refl refl c.take.ensures.after refl refl refl refl refl c.of-3.ensures)
    (record { pins = sym c.of-2.ensures; gather = sym c.of-3.ensures })
    (sym (ap (without_held c.args.journal.now) (sym c.take.ensures.value ∙ c.in_default.is))) (λ front known. known)
