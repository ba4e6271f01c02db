-- The turn of one shard: what the desk that was pinned, and maybe swapped, is to the desk before.
use Rattle.std.proofs.Common.{◌≡◌, ◌≢◌, ◌⊎◌, inl, inr, ℕ, ◌+◌, ◌<◌, ◌≤◌, ◌==◌, Bool, true, false, cond, List, ◌++◌, length, take, map, eqb-true, get_or, set, refl, sym, ap, subst, ◌∙◌, arith}
use Rattle.std.specs.Prelude.{◌&&◌}
use Rattle.std.proofs.lemmas.Bool.{cases_eq, eq-eqb, eqb-false, ne_eqb}
use Rattle.std.proofs.lemmas.List.{append-nil, get_or-set_other, get_or-set_same, length-map, take_all}
use Rattle.hamming_model.specs.History.{JournalEntry, rows_of, shard_rows}
use Rattle.hamming_model.specs.Recoded.{cut_entry, cut_history}
use Rattle.part_layout.specs.Laid.{Laid}
use Rattle.shard_version.specs.Contents.{Contents}
use Rattle.version_draft.specs.Unfinished.{Unfinished}
use Rattle.session_desk.specs.Calls.{Learns, one_more}
use Rattle.session_desk.specs.Desks.{DeskState, IsDesk, ShardPlace, no_place, place_at, seen_history}
use Rattle.query_opening.specs.Pinning.{ComesOn}
use Rattle.query_opening.proofs.PinLemmas.{learns_both}
use Rattle.shard_rebuild.specs.Swapping.{FindsMoved, IfMoved, IfNoMemory, IfSwapped, LacksMemory, SwapsIn, with_late, with_swap}
use Rattle.shard_rebuild.specs.declared.answer.SwapAnswer.{SwapAnswer}
use Rattle.shard_rebuild.specs.declared.answer.SwapAnswer.TheVariants as answer
use Rattle.shard_tending.proofs.SampleLemmas.{ap_both}
use Rattle.shard_tending.specs.Outcomes.{outcome_of}
use Rattle.shard_tending.specs.Searched.{is_improvable, is_improved, layout_in, seen_rows, tended_in, tended_layout}
use Rattle.shard_tending.specs.Tending.{IsCountRise, KeepsOwnDesk}
use Rattle.shard_tending.specs.Turns.{PinsShard, TurnsAlone, TurnsShard}
use Rattle.shard_tending.specs.declared.outcome.ShardTurn.{ShardTurn}
use Rattle.shard_tending.specs.declared.outcome.ShardTurn.TheVariants.{Stays, Swapped, Moved, NoMemory}

pub keeps_comes : (old new : DeskState) → ComesOn old new → KeepsOwnDesk old new
keeps_comes old new comes = record {
  learns = comes.learns;
  board = comes.board;
  who = comes.who;
  config = comes.config;
  fronts = comes.fronts;
  alone = comes.alone;
}

pub keeps_both : (old mid new : DeskState) → KeepsOwnDesk old mid → KeepsOwnDesk mid new → KeepsOwnDesk old new
keeps_both old mid new first second = record {
  learns = learns_both old mid new.seen first.learns second.learns first.who first.alone;
  board = second.board ∙ first.board;
  who = second.who ∙ first.who;
  config = second.config ∙ first.config;
  fronts = second.fronts ∙ first.fronts;
  alone = second.alone ∙ first.alone;
}

-- from a desk with a swap more, or with one that came late
pub keeps_swap : (mid new : DeskState) (shard : ℕ) (layout : Laid) → ComesOn (with_swap mid shard layout) new → KeepsOwnDesk mid new
keeps_swap mid new shard layout comes = record {
  learns = record { more = comes.learns.more; longer = comes.learns.longer; others = comes.learns.others; all = comes.learns.all };
  board = comes.board;
  who = comes.who;
  config = comes.config;
  fronts = comes.fronts;
  alone = comes.alone;
}

pub keeps_late : (mid new : DeskState) → ComesOn (with_late mid) new → KeepsOwnDesk mid new
keeps_late mid new comes = record {
  learns = record { more = comes.learns.more; longer = comes.learns.longer; others = comes.learns.others; all = comes.learns.all };
  board = comes.board;
  who = comes.who;
  config = comes.config;
  fronts = comes.fronts;
  alone = comes.alone;
}

-- ---- the counts

pub rise_none : (before after : ℕ) → after ≡ before → IsCountRise before 0 after
rise_none before after same =
    record { exact = λ _. omega (arith, same); full = λ is. same ∙ is; never_back = omega (arith, same); never_more = omega (arith, same) }

pub rise_one : (before after : ℕ) → after ≡ one_more before → IsCountRise before 1 after
rise_one before after more = go (before == 18446744073709551615) refl
  where
    go : (full : Bool) → (before == 18446744073709551615) ≡ full → IsCountRise before 1 after
    go true e =
        let same : after ≡ before = more ∙ ap (λ (b : Bool). cond b before (before + 1)) e in
        let is : before ≡ 18446744073709551615 = eqb-true before 18446744073709551615 e in
        record {
          exact = λ below. absurd (below (same ∙ is));
          full = λ _. same ∙ is;
          never_back = omega (arith, same);
          never_more = omega (arith, same);
        }
    go false e =
        let same : after ≡ before + 1 = more ∙ ap (λ (b : Bool). cond b before (before + 1)) e in
        record {
          exact = λ _. same;
          full = λ is. absurd (eqb-false before 18446744073709551615 e is);
          never_back = omega (arith, same);
          never_more = omega (arith, same);
        }

-- ---- a desk that is alone

pub seen_same : (old new : DeskState) → KeepsOwnDesk old new → old.alone ≡ true → new.seen ≡ old.seen
seen_same old new keeps alone =
    keeps.learns.longer ∙ ap (λ (more : List JournalEntry). old.seen ++ more) (keeps.learns.all alone) ∙ append-nil old.seen

pub rows_same : (old new : DeskState) → KeepsOwnDesk old new → old.alone ≡ true → (shard : ℕ) → seen_rows new shard ≡ seen_rows old shard
rows_same old new keeps alone shard =
    ap (λ (seen : List JournalEntry). shard_rows shard new.config.shards (rows_of (cut_history new.config.bits seen))) (seen_same old new keeps alone)
    ∙ ap (λ config. shard_rows shard config.shards (rows_of (cut_history config.bits old.seen))) keeps.config

module _ (old mid : DeskState) (shard : ℕ) (comes : ComesOn old mid) (version : Contents)
    (pins : PinsShard old mid shard version) (alone : old.alone ≡ true) where
  keeps : KeepsOwnDesk old mid
  keeps = keeps_comes old mid comes

  pub version_rows : version.rows ≡ seen_rows old shard
  version_rows =
      pins.pinned.version_is.rows
      ∙ ap (λ (entries : List JournalEntry). shard_rows shard mid.config.shards (rows_of entries)) whole
      ∙ rows_same old mid keeps alone shard
    where
      at_is : version.at ≡ length (seen_history mid)
      at_is = omega (arith, pins.after, pins.within, ap length (seen_same old mid keeps alone), length-map mid.seen (cut_entry mid.config.bits))

      whole : take version.at (seen_history mid) ≡ seen_history mid
      whole = ap (λ (n : ℕ). take n (seen_history mid)) at_is ∙ take_all (length (seen_history mid)) (seen_history mid) (omega arith)

  pub version_layout : version.layout ≡ layout_in old shard
  version_layout = pins.pinned.layout alone

  pub version_improved : is_improved version.rows version.layout ≡ is_improvable old shard
  version_improved = ap_both is_improved version_rows version_layout

  pub version_tended : tended_layout version.rows version.layout ≡ tended_in old shard
  version_tended = ap_both tended_layout version_rows version_layout

-- ---- the outcomes

nowhere : (here : Bool) (one other : Laid) → cond (here && false) one other ≡ other
nowhere true one other = refl
nowhere false one other = refl

pub turn_memory : (old new : DeskState) (shard : ℕ) → ComesOn old new → TurnsShard old new shard NoMemory
turn_memory old new shard comes = record {
  keeps = keeps_comes old new comes;
  done = rise_none old.done new.done comes.done;
  late = rise_none old.late new.late comes.late;
  alone = λ alone. record {
    never = refl;
    which = λ none. absurd (omega (arith, none));
    layouts = λ other. comes.layouts alone other ∙ sym (nowhere (other == shard) (tended_in old shard) (layout_in old other));
  };
}

pub turn_stays : (old new : DeskState) (shard : ℕ) → ComesOn old new
    → (old.alone ≡ true → is_improvable old shard ≡ false) → TurnsShard old new shard Stays
turn_stays old new shard comes none = record {
  keeps = keeps_comes old new comes;
  done = rise_none old.done new.done comes.done;
  late = rise_none old.late new.late comes.late;
  alone = λ alone. record {
    never = refl;
    which = λ _. sym (none alone);
    layouts = λ other. comes.layouts alone other ∙ sym (nowhere (other == shard) (tended_in old shard) (layout_in old other));
  };
}

module _ (old mid new : DeskState) (shard : ℕ) (first : ComesOn old mid) (build : Unfinished)
    (layout : old.alone ≡ true → build.contents.layout ≡ tended_in old shard) (some : old.alone ≡ true → is_improvable old shard ≡ true)
    (low : old.alone ≡ true → shard < length mid.places) where
  turn_swapped : (at : ℕ) → SwapsIn mid new shard build at → TurnsShard old new shard Swapped
  turn_swapped at swaps = record {
    keeps = keeps_both old mid new (keeps_comes old mid first) (keeps_swap mid new shard build.contents.layout swaps.comes.comes);
    done = rise_one old.done new.done (swaps.comes.comes.done ∙ ap one_more first.done);
    late = rise_none old.late new.late (swaps.comes.comes.late ∙ first.late);
    alone = λ alone. record {
      never = refl;
      which = λ _. sym (some alone);
      layouts = λ other. swaps.comes.comes.layouts (first.alone ∙ alone) other ∙ go alone other (cases_eq other shard);
    };
  }
    where
      place : ShardPlace
      place = ((place_at mid shard).0, build.contents.layout)

      go : old.alone ≡ true → (other : ℕ) → (other ≡ shard) ⊎ (other ≢ shard)
          → (get_or (set mid.places shard place) other no_place).1 ≡ cond ((other == shard) && true) (tended_in old shard) (layout_in old other)
      go alone other (inl here) =
          ap (λ (n : ℕ). (get_or (set mid.places shard place) n no_place).1) here
          ∙ ap (λ (p : ShardPlace). p.1) (get_or-set_same mid.places shard place no_place (low alone))
          ∙ layout alone
          ∙ sym (ap (λ (b : Bool). cond (b && true) (tended_in old shard) (layout_in old other)) (eq-eqb other shard here))
      go alone other (inr apart) =
          ap (λ (p : ShardPlace). p.1) (get_or-set_other mid.places shard other place no_place apart)
          ∙ first.layouts alone other
          ∙ sym (ap (λ (b : Bool). cond (b && true) (tended_in old shard) (layout_in old other)) (ne_eqb other shard apart))

  turn_moved : (front shard_at : ℕ) (back : Unfinished) → FindsMoved mid new shard build front shard_at back → (old.alone ≡ true → ⊥)
      → TurnsShard old new shard Moved
  turn_moved front shard_at back finds never = record {
    keeps = keeps_both old mid new (keeps_comes old mid first) (keeps_late mid new finds.comes.comes);
    done = rise_none old.done new.done (finds.comes.comes.done ∙ first.done);
    late = rise_one old.late new.late (finds.comes.comes.late ∙ ap one_more first.late);
    alone = λ alone. absurd (never alone);
  }

  turn_lacks : (back : Unfinished) → LacksMemory mid new shard build back → TurnsShard old new shard NoMemory
  turn_lacks back lacks = record {
    keeps = keeps_both old mid new (keeps_comes old mid first) (keeps_comes mid new lacks.comes);
    done = rise_none old.done new.done (lacks.comes.done ∙ first.done);
    late = rise_none old.late new.late (lacks.comes.late ∙ first.late);
    alone = λ alone. record {
      never = refl;
      which = λ none. absurd (omega (arith, none));
      layouts = λ other.
          lacks.comes.layouts (first.alone ∙ alone) other ∙ first.layouts alone other
          ∙ sym (nowhere (other == shard) (tended_in old shard) (layout_in old other));
    };
  }

  -- by the answer to the swap
  pub turned : {W : ℕ} (told : SwapAnswer W) → IfSwapped told (λ at. SwapsIn mid new shard build at)
      → IfMoved told (λ front shard_at back. FindsMoved mid new shard build front shard_at back)
      → IfNoMemory told (λ back. LacksMemory mid new shard build back)
      → (mid.alone ≡ true → IfMoved told (λ front shard_at back. ⊥)) → TurnsShard old new shard (outcome_of told)
  turned (answer.Swapped at) swapped moved memory never = turn_swapped at swapped
  turned (answer.Moved front shard_at back) swapped moved memory never =
      turn_moved front shard_at back moved (λ alone. never (first.alone ∙ alone))
  turned (answer.NoMemory back) swapped moved memory never = turn_lacks back memory

-- a build of a version that was pinned, in a layout that was found, and its swap
module _ (old mid new : DeskState) (shard : ℕ) (first : ComesOn old mid) (version : Contents) (pins : PinsShard old mid shard version) (laid : Laid)
    (build : Unfinished) (found : laid ≡ tended_layout version.rows version.layout) (is : build.contents.layout ≡ laid)
    (improved : is_improved version.rows version.layout ≡ true) (words : ℕ) (desk : IsDesk words mid) (low : shard < old.config.shards) where
  pub turned_there : {W : ℕ} (told : SwapAnswer W) → IfSwapped told (λ at. SwapsIn mid new shard build at)
      → IfMoved told (λ front shard_at back. FindsMoved mid new shard build front shard_at back)
      → IfNoMemory told (λ back. LacksMemory mid new shard build back)
      → (mid.alone ≡ true → IfMoved told (λ front shard_at back. ⊥)) → TurnsShard old new shard (outcome_of told)
  turned_there told swapped moved memory never =
      turned old mid new shard first build
      (λ alone. is ∙ found ∙ version_tended old mid shard first version pins alone)
      (λ alone. sym (version_improved old mid shard first version pins alone) ∙ improved)
      (λ alone. omega (arith, low, desk.places (first.alone ∙ alone), ap (λ config. config.shards) first.config))
      told swapped moved memory never
