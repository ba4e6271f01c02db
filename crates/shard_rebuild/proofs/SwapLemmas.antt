-- A desk that swapped a build in, or couldn't, after the front was closed to which the build came.
use Rattle.std.proofs.Common.{◌≡◌, ◌≢◌, ◌⊎◌, inl, inr, ℕ, ◌+◌, ◌-◌, ◌<◌, ◌≤◌, Bool, true, false, cond, List, length, get_or, set, None, refl, sym, ap, subst, ◌∙◌, arith}
use Rattle.std.specs.Prelude.{◌&&◌, nat_lt}
use Rattle.std.proofs.lemmas.Bool.{cases_eq, eq-eqb, lt-ltb}
use Rattle.std.proofs.lemmas.List.{get_or-set_other, get_or-set_same}
use Rattle.part_layout.specs.Laid.{Laid}
use Rattle.version_draft.specs.Unfinished.{Unfinished}
use Rattle.repartitioner.specs.Builds.{placed_all}
use Rattle.session_desk.specs.Calls.{Learns, Swaps, is_late, one_more}
use Rattle.session_desk.specs.Desks.{DeskState, IsDesk, ShardPlace, left_at, no_place, pinned_at, place_at}
use Rattle.query_opening.proofs.PinLemmas.{learns_both, learns_length}
use Rattle.shard_rebuild.specs.Fronting.{SwapsAs}
use Rattle.shard_rebuild.specs.ShardBuilds.{KeepsOtherPins}
use Rattle.shard_rebuild.specs.Swapping.{BuildGoesOn, ComesByFront, FindsMoved, LacksMemory, SwapsIn, with_swap}
use Rattle.shard_rebuild.specs.Swapping.{IfMoved, IfNoMemory, IfSwapped, front_in}
use Rattle.shard_rebuild.specs.declared.answer.SwapAnswer.{SwapAnswer}
use Rattle.shard_rebuild.specs.declared.answer.SwapAnswer.TheVariants.{Swapped, Moved, NoMemory}
use Rattle.shard_rebuild.proofs.BuildLemmas.{build_lasts, learns_more}

-- the layout of each shard where one has another
module _ (before after : List ShardPlace) (shard at_before at_after : ℕ) (layout : Laid) (low_before : shard < length before) (low_after : shard < length after)
    (same : (other : ℕ) → (get_or after other no_place).1 ≡ (get_or before other no_place).1) where
  pub layouts_set : (other : ℕ)
      → (get_or (set after shard (at_after, layout)) other no_place).1 ≡ (get_or (set before shard (at_before, layout)) other no_place).1
  layouts_set other = go (cases_eq other shard)
    where
      go : (other ≡ shard) ⊎ (other ≢ shard)
          → (get_or (set after shard (at_after, layout)) other no_place).1 ≡ (get_or (set before shard (at_before, layout)) other no_place).1
      go (inl here) = subst (λ (n : ℕ). (get_or (set after shard (at_after, layout)) n no_place).1
          ≡ (get_or (set before shard (at_before, layout)) n no_place).1) (sym here)
          (ap (λ (place : ShardPlace). place.1) (get_or-set_same after shard (at_after, layout) no_place low_after)
          ∙ sym (ap (λ (place : ShardPlace). place.1) (get_or-set_same before shard (at_before, layout) no_place low_before)))
      go (inr apart) =
          ap (λ (place : ShardPlace). place.1) (get_or-set_other after shard other (at_after, layout) no_place apart)
          ∙ same other
          ∙ sym (ap (λ (place : ShardPlace). place.1) (get_or-set_other before shard other (at_before, layout) no_place apart))

-- a shard that isn't behind a front, and stands elsewhere, is beyond it
late_true : (last prepared left : ℕ) → prepared ≡ last → last < left → is_late last prepared left ≡ true
late_true last prepared left same beyond =
    ap (λ (is : Bool). is && nat_lt last left) (eq-eqb prepared last same) ∙ lt-ltb last left beyond

module _ (old mid new : DeskState) (shard position : ℕ) (build : Unfinished) (moved : Bool) (swaps : Swaps mid new shard build.contents moved)
    (comes : ComesByFront old mid shard position) (meets : build.contents.at ≡ position) where
  learned : Learns old new.seen
  learned = learns_both old mid new.seen comes.comes.learns swaps.learns comes.comes.who comes.comes.alone

  pub swap_others : KeepsOtherPins old mid shard → KeepsOtherPins old new shard
  swap_others others = λ other apart. ap (λ (d : DeskState). get_or d.pins other None) swaps.after ∙ others other apart

  same_pinned : (other : ℕ) → pinned_at new other ≡ pinned_at mid other
  same_pinned other = ap (λ (d : DeskState). pinned_at d other) swaps.after

  rises_so : (other : ℕ) → pinned_at old other ≤ length old.seen → pinned_at old other ≤ pinned_at new other
  rises_so other within = omega (arith, same_pinned other, comes.comes.rises other within)

  seen_so : position ≤ length new.seen
  seen_so = omega (arith, comes.within, learns_length mid new.seen swaps.learns)

  last_so : new.last ≡ position
  last_so = ap (λ (d : DeskState). d.last) swaps.after ∙ comes.last

  pinned_so : pinned_at new shard ≡ position
  pinned_so = same_pinned shard ∙ comes.pinned

  not_behind : position ≤ left_at new shard
  not_behind = omega (arith, swaps.pinned, comes.pinned)

  -- it was swapped in
  module _ (done : moved ≡ false) (words : ℕ) (desk_old : IsDesk words old) (desk_mid : IsDesk words mid) (low : shard < old.config.shards) where
    stands_so : left_at new shard ≡ position
    stands_so = go (cases_eq build.contents.at (left_at new shard))
      where
        go : (build.contents.at ≡ left_at new shard) ⊎ (build.contents.at ≢ left_at new shard) → left_at new shard ≡ position
        go (inl same) = sym same ∙ meets
        go (inr apart) = (let both : true ≡ false = sym (swaps.moved_is.1 apart) ∙ done in cc)

    places_so : old.alone ≡ true → new.places ≡ set mid.places shard ((place_at mid shard).0, build.contents.layout)
    places_so alone = swaps.places (comes.comes.alone ∙ alone)
        ∙ ap (λ (is : Bool). cond is mid.places (set mid.places shard ((place_at mid shard).0, build.contents.layout))) done

    low_mid : shard < mid.config.shards
    low_mid = omega (arith, low, ap (λ config. config.shards) comes.comes.config)

    pub swapped_in : SwapsIn old new shard build position
    swapped_in = record {
      comes = record {
        comes = record {
          learns = record { more = learned.more; longer = learned.longer; others = learned.others; all = learned.all };
          board = ap (λ (d : DeskState). d.board) swaps.after ∙ comes.comes.board;
          who = ap (λ (d : DeskState). d.who) swaps.after ∙ comes.comes.who;
          config = ap (λ (d : DeskState). d.config) swaps.after ∙ comes.comes.config;
          fronts = ap (λ (d : DeskState). d.fronts) swaps.after ∙ comes.comes.fronts;
          done = ap (λ (d : DeskState). d.done) swaps.after ∙ ap (λ (is : Bool). cond is mid.done (one_more mid.done)) done
              ∙ ap one_more comes.comes.done;
          late = ap (λ (d : DeskState). d.late) swaps.after
              ∙ ap (λ (is : Bool). cond (is && is_late mid.last build.contents.at (left_at new shard)) (one_more mid.late) mid.late) done
              ∙ comes.comes.late;
          alone = ap (λ (d : DeskState). d.alone) swaps.after ∙ comes.comes.alone;
          number = ap (λ (d : DeskState). length d.pins) swaps.after ∙ comes.comes.number;
          rises = rises_so;
          layouts = λ alone other.
              ap (λ (places : List ShardPlace). (get_or places other no_place).1) (places_so alone)
              ∙ layouts_set old.places mid.places shard (place_at old shard).0 (place_at mid shard).0 build.contents.layout
              (omega (arith, low, desk_old.places alone)) (omega (arith, low_mid, desk_mid.places (comes.comes.alone ∙ alone)))
              (comes.comes.layouts alone) other;
        };
        last = last_so;
        after = comes.after;
        within = seen_so;
        pinned = pinned_so;
      };
      stands = stands_so;
    }

  -- the shard was beyond the front
  module _ (is_moved : moved ≡ true) where
    beyond_so : position < left_at new shard
    beyond_so = omega (arith, not_behind, (λ (same : position ≡ left_at new shard). swaps.moved_is.0 is_moved (meets ∙ same)))

    late_so : (cond (moved && is_late mid.last build.contents.at (left_at new shard)) (one_more mid.late) mid.late) ≡ one_more old.late
    late_so = ap (λ (is : Bool). cond (is && is_late mid.last build.contents.at (left_at new shard)) (one_more mid.late) mid.late) is_moved
        ∙ ap (λ (is : Bool). cond is (one_more mid.late) mid.late) (late_true mid.last build.contents.at (left_at new shard)
        (meets ∙ sym comes.last) (omega (arith, beyond_so, comes.last)))
        ∙ ap one_more comes.comes.late

    pub found_moved : (start : Unfinished) → BuildGoesOn mid shard start build → build.left ≡ 0
        → FindsMoved old new shard start position (left_at new shard) (placed_all build.contents)
    found_moved start goes_on placed = record {
      comes = record {
        comes = record {
          learns = record { more = learned.more; longer = learned.longer; others = learned.others; all = learned.all };
          board = ap (λ (d : DeskState). d.board) swaps.after ∙ comes.comes.board;
          who = ap (λ (d : DeskState). d.who) swaps.after ∙ comes.comes.who;
          config = ap (λ (d : DeskState). d.config) swaps.after ∙ comes.comes.config;
          fronts = ap (λ (d : DeskState). d.fronts) swaps.after ∙ comes.comes.fronts;
          done = ap (λ (d : DeskState). d.done) swaps.after ∙ ap (λ (is : Bool). cond is mid.done (one_more mid.done)) is_moved
              ∙ comes.comes.done;
          late = ap (λ (d : DeskState). d.late) swaps.after ∙ late_so;
          alone = ap (λ (d : DeskState). d.alone) swaps.after ∙ comes.comes.alone;
          number = ap (λ (d : DeskState). length d.pins) swaps.after ∙ comes.comes.number;
          rises = rises_so;
          layouts = λ alone other.
              ap (λ (places : List ShardPlace). (get_or places other no_place).1) (swaps.places (comes.comes.alone ∙ alone)
              ∙ ap (λ (is : Bool). cond is mid.places (set mid.places shard ((place_at mid shard).0, build.contents.layout))) is_moved)
              ∙ comes.comes.layouts alone other;
        };
        last = last_so;
        after = comes.after;
        within = seen_so;
        pinned = pinned_so;
      };
      stands = refl;
      beyond = beyond_so;
      goes_on = record {
        of_shard = build_lasts mid new (learns_more mid new swaps.learns (ap (λ (d : DeskState). d.config) swaps.after)) shard build goes_on.of_shard;
        layout = goes_on.layout;
        never_back = goes_on.never_back;
        placed = refl;
      };
      at = meets;
    }

    -- which it never is where the desk is alone
    pub never_moved : old.alone ≡ true → (old.alone ≡ true → (place_at mid shard).0 ≡ position) → ⊥
    never_moved alone there = absurd (omega (arith, beyond_so, swaps.stays (comes.comes.alone ∙ alone), there alone))

-- ---- by the answer

module _ {W : ℕ} (words : ℕ) (old mid new : DeskState) (shard position : ℕ) (before build : Unfinished) (comes : ComesByFront old mid shard position)
    (meets : build.contents.at ≡ position) (goes_on : BuildGoesOn mid shard before build) where
  pub answer_swapped : IsDesk words old → IsDesk words mid → shard < old.config.shards → (answer : SwapAnswer W) → SwapsAs mid new shard build position answer
      → IfSwapped answer (λ at. SwapsIn old new shard before at)
  answer_swapped desk_old desk_mid low (Swapped at) is =
      let done = swapped_in old mid new shard position build false is.1 comes meets refl words desk_old desk_mid low in
      subst (λ (n : ℕ). SwapsIn old new shard before n) (sym is.0) (record {
        comes = subst (λ (layout : Laid). ComesByFront (with_swap old shard layout) new shard position) goes_on.layout done.comes;
        stands = done.stands;
      })
  answer_swapped desk_old desk_mid low (Moved front shard_at back) is = tt
  answer_swapped desk_old desk_mid low (NoMemory back) is = tt

  pub answer_moved : (answer : SwapAnswer W) → SwapsAs mid new shard build position answer
      → IfMoved answer (λ front shard_at back. FindsMoved old new shard before front shard_at back)
  answer_moved (Swapped at) is = tt
  answer_moved (Moved front shard_at back) is =
      subst (λ (n : ℕ). FindsMoved old new shard before n shard_at back) (sym is.0)
      (subst (λ (n : ℕ). FindsMoved old new shard before position n back) (sym is.1.0)
      (subst (λ (each : Unfinished). FindsMoved old new shard before position (left_at new shard) each) (sym is.1.1.0)
      (found_moved old mid new shard position build true is.1.1.1 comes meets refl before goes_on goes_on.placed)))
  answer_moved (NoMemory back) is = tt

  pub answer_memory : (answer : SwapAnswer W) → SwapsAs mid new shard build position answer
      → IfNoMemory answer (λ back. LacksMemory old new shard before back)
  answer_memory (Swapped at) is = tt
  answer_memory (Moved front shard_at back) is = tt
  answer_memory (NoMemory back) is =
      subst (λ (d : DeskState). LacksMemory old d shard before back) (sym is.0)
      (subst (λ (each : Unfinished). LacksMemory old mid shard before each) (sym is.1) (record { comes = comes.comes; goes_on = goes_on }))

  pub answer_alone : old.alone ≡ true → (old.alone ≡ true → (place_at mid shard).0 ≡ position) → (answer : SwapAnswer W)
      → SwapsAs mid new shard build position answer → IfMoved answer (λ front shard_at back. ⊥)
  answer_alone alone there (Swapped at) is = tt
  answer_alone alone there (Moved front shard_at back) is =
      never_moved old mid new shard position build true is.1.1.1 comes meets refl alone there
  answer_alone alone there (NoMemory back) is = tt

  pub answer_others : KeepsOtherPins old mid shard → (answer : SwapAnswer W) → SwapsAs mid new shard build position answer → KeepsOtherPins old new shard
  answer_others others (Swapped at) is = swap_others old mid new shard position build false is.1 comes meets others
  answer_others others (Moved front shard_at back) is = swap_others old mid new shard position build true is.1.1.1 comes meets others
  answer_others others (NoMemory back) is = subst (λ (d : DeskState). KeepsOtherPins old d shard) (sym is.0) others

  pub answer_steps : (from to : ℕ) → to ≤ from + (position - pinned_at old shard) + (position - before.contents.at) → (answer : SwapAnswer W)
      → SwapsAs mid new shard build position answer
      → to ≤ from + (front_in answer (length new.seen) - pinned_at old shard) + (front_in answer (length new.seen) - before.contents.at)
  answer_steps from to bound (Swapped at) is = omega (arith, bound, is.0)
  answer_steps from to bound (Moved front shard_at back) is = omega (arith, bound, is.0)
  answer_steps from to bound (NoMemory back) is =
      let seen : length new.seen ≡ length mid.seen = ap (λ (d : DeskState). length d.seen) is.0 in
      omega (arith, bound, seen, comes.within)
