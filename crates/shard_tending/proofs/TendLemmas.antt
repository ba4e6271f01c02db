-- The shards of a turn, one after the other.
use Rattle.std.proofs.Common.{◌≡◌, ◌≢◌, ◌⊎◌, inl, inr, ℕ, zero, suc, ◌+◌, ◌*◌, ◌<◌, ◌≤◌, ◌==◌, Bool, true, false, cond, List, [], ◌∷◌, ◌++◌, length, refl, sym, ap, subst, ◌∙◌, arith}
use Rattle.std.specs.Prelude.{◌&&◌, nat_lt, Option, Some, None}
use Rattle.std.proofs.lemmas.Bool.{cases_eq, cases_lt, eq-eqb, ne_eqb, lt-ltb}
use Rattle.std.proofs.lemmas.List.{append-nil, length-append}
use Rattle.exchange_model.specs.Exchanges.{exchanged}
use Rattle.exchange_model.specs.Rounds.{Reached, first_cheaper, improved, then_or_stay}
use Rattle.exchange_model.specs.declared.position_exchange.PositionExchange.{PositionExchange}
use Rattle.part_layout.specs.Laid.{Laid}
use Rattle.commit_journal.specs.Fronts.{FrontState, live_at}
use Rattle.session_desk.specs.Calls.{KeepsKnown}
use Rattle.session_desk.specs.Desks.{DeskState}
use Rattle.shard_tending.specs.Outcomes.{counted_turn, moves_in, swaps_in, turns_in, wants_in}
use Rattle.shard_tending.specs.Searched.{is_improvable, is_improved, layout_in, seen_rows, tended_in, tended_layout, tending_cost}
use Rattle.shard_tending.specs.Tending.{IsCountRise, KeepsOwnDesk, TendsAlone, improvable_shards, is_among, layout_after}
use Rattle.shard_tending.specs.Turns.{TurnsAlone}
use Rattle.shard_tending.specs.declared.limits.TheConstants.{TENDING_ROUNDS}
use Rattle.shard_tending.specs.declared.outcome.ShardTurn.{ShardTurn}
use Rattle.shard_tending.specs.declared.outcome.ShardTurn.TheVariants.{Stays, Swapped, Moved, NoMemory}
use Rattle.shard_tending.specs.declared.tended.Tended.{Tended}
use Rattle.shard_tending.proofs.SampleLemmas.{ap_both}
use Rattle.shard_tending.proofs.TurnLemmas.{rows_same}

-- ---- a search that takes no exchange

still_of : (parts : List (List ℕ)) (found : Option PositionExchange) (follow : List (List ℕ) → Reached) → (then_or_stay parts found follow).swaps ≡ 0
    → (then_or_stay parts found follow).parts ≡ parts
still_of parts None follow none = refl
still_of parts (Some exchange) follow none = absurd (omega (arith, none))

pub still : (cost : List (List ℕ) → ℕ) (rounds : ℕ) (parts : List (List ℕ)) → (improved cost rounds parts).swaps ≡ 0
    → (improved cost rounds parts).parts ≡ parts
still cost zero parts none = refl
still cost (suc rounds) parts none = still_of parts (first_cheaper cost parts) (improved cost rounds) none

abbrev pub CheaperBySwaps : Type 0
CheaperBySwaps = (cost : List (List ℕ) → ℕ) (rounds : ℕ) (parts : List (List ℕ))
    → (improved cost rounds parts).swaps + cost (improved cost rounds parts).parts ≤ cost parts

pub not_improved : CheaperBySwaps → (rows : List (ℕ × List ℕ)) (layout : Laid) → is_improved rows layout ≡ false → tended_layout rows layout ≡ layout
not_improved law rows layout none =
    ap (λ (parts : List (List ℕ)). the_laid layout.bits parts) (still (tending_cost rows) TENDING_ROUNDS layout.parts (go (cases_lt after before)))
  where
    the_laid : ℕ → List (List ℕ) → Laid
    the_laid bits parts = record { bits = bits; parts = parts }

    after : ℕ
    after = tending_cost rows (improved (tending_cost rows) TENDING_ROUNDS layout.parts).parts

    before : ℕ
    before = tending_cost rows layout.parts

    go : (after < before) ⊎ (before ≤ after) → (improved (tending_cost rows) TENDING_ROUNDS layout.parts).swaps ≡ 0
    go (inl less) = absurd (false_true (sym none ∙ lt-ltb after before less))
      where
        false_true : false ≡ true → ⊥
        false_true e = cc
    go (inr more) = omega (arith, more, law (tending_cost rows) TENDING_ROUNDS layout.parts)

-- ---- one more among some

pub among_last : (shards : List ℕ) (shard : ℕ) → is_among (shards ++ shard ∷ []) shard ≡ true
among_last [] shard = ap (λ (b : Bool). cond b true false) (eq-eqb shard shard refl)
among_last (other ∷ others) shard = ap (cond (other == shard) true) (among_last others shard) ∙ both (other == shard)
  where
    both : (b : Bool) → cond b true true ≡ true
    both true = refl
    both false = refl

pub among_other : (shards : List ℕ) (shard other : ℕ) → other ≢ shard → is_among (shards ++ shard ∷ []) other ≡ is_among shards other
among_other [] shard other apart = ap (λ (b : Bool). cond b true false) (ne_eqb shard other (λ same. apart (sym same)))
among_other (first ∷ others) shard other apart = ap (cond (first == other) true) (among_other others shard other apart)

-- ---- the counts

pub rise_both : (before one between two after : ℕ) → IsCountRise before one between → IsCountRise between two after
    → IsCountRise before (one + two) after
rise_both before one between two after first second = record {
  exact = λ below. go below (cases_eq between 18446744073709551615);
  full = λ is. second.full (first.full is);
  never_back = omega (arith, first.never_back, second.never_back);
  never_more = omega (arith, first.never_more, second.never_more);
}
  where
    go : after ≢ 18446744073709551615 → (between ≡ 18446744073709551615) ⊎ (between ≢ 18446744073709551615) → after ≡ before + (one + two)
    go below (inl full) = absurd (below (second.full full))
    go below (inr more) = omega (arith, first.exact more, second.exact below)

-- ---- the layouts

pub begins_alone : (old : DeskState) → TendsAlone old old (record { swapped = 0; moved = 0; nomem = 0 }) 0
begins_alone old = record {
  swapped = [];
  number = refl;
  none_moved = refl;
  own = λ _ _. refl;
  layouts = λ _. refl;
  improvable = λ _. refl;
  each = λ _ shard low. absurd (omega (arith, low));
}

module _ (law : CheaperBySwaps) (old now new : DeskState) (tended : Tended) (shard : ℕ) (so_far : TendsAlone old now tended shard)
    (keeps : KeepsOwnDesk old now) (alone : old.alone ≡ true) where
  here : layout_in now shard ≡ layout_in old shard
  here = so_far.layouts shard ∙ ap (λ (b : Bool). cond b (tended_in old shard) (layout_in old shard)) (so_far.own shard (omega arith))

  rows : seen_rows now shard ≡ seen_rows old shard
  rows = rows_same old now keeps alone shard

  tended_same : tended_in now shard ≡ tended_in old shard
  tended_same = ap_both tended_layout rows here

  improvable_same : is_improvable now shard ≡ is_improvable old shard
  improvable_same = ap_both is_improved rows here

  nowhere : (b : Bool) (one other : Laid) → cond (b && false) one other ≡ other
  nowhere true one other = refl
  nowhere false one other = refl

  -- a shard that wasn't swapped
  module _ (turn : ShardTurn) (turns : TurnsAlone now new shard turn) (not_swapped : swaps_in turn ≡ 0) where
    kept : (other : ℕ) → layout_in new other ≡ layout_in now other
    kept other = turns.layouts other
        ∙ ap (λ (n : ℕ). cond ((other == shard) && (n == 1)) (tended_in now shard) (layout_in now other)) not_swapped
        ∙ nowhere (other == shard) (tended_in now shard) (layout_in now other)

    none_here : wants_in turn ≡ 0 → is_improvable old shard ≡ false
    none_here fine = sym improvable_same ∙ sym (turns.which fine) ∙ ap (λ (n : ℕ). n == 1) not_swapped

    pub stays_alone : TendsAlone old new (counted_turn tended turn) (suc shard)
    stays_alone = record {
      swapped = so_far.swapped;
      number = omega (arith, so_far.number, not_swapped);
      none_moved = omega (arith, so_far.none_moved, turns.never);
      own = λ other above. so_far.own other (omega (arith, above));
      layouts = λ other. kept other ∙ so_far.layouts other;
      improvable = λ fine. (so_far.improvable (omega (arith, fine))
          ∙ sym (ap (λ (b : Bool). cond b (improvable_shards old shard ++ shard ∷ []) (improvable_shards old shard)) (none_here (omega (arith, fine)))));
      each = λ fine other low. kept other ∙ go fine other low (cases_lt other shard);
    }
      where
        go : tended.nomem + wants_in turn ≡ 0 → (other : ℕ) → other < suc shard → (other < shard) ⊎ (shard ≤ other) → layout_in now other ≡ tended_in old other
        go fine other low (inl before) = so_far.each (omega (arith, fine)) other before
        go fine other low (inr last) =
            let same : other ≡ shard = omega (arith, low, last) in
            subst (λ (n : ℕ). layout_in now n ≡ tended_in old n) (sym same)
            (here ∙ sym (not_improved law (seen_rows old shard) (layout_in old shard) (none_here (omega (arith, fine)))))

  -- a shard that was swapped
  pub swaps_alone : TurnsAlone now new shard Swapped → TendsAlone old new (counted_turn tended Swapped) (suc shard)
  swaps_alone turns = record {
    swapped = so_far.swapped ++ shard ∷ [];
    number = length-append so_far.swapped (shard ∷ []) ∙ omega (arith, so_far.number);
    none_moved = omega (arith, so_far.none_moved);
    own = λ other above. among_other so_far.swapped shard other (λ same. omega (arith, same, above)) ∙ so_far.own other (omega (arith, above));
    layouts = λ other. go other (cases_eq other shard);
    improvable = λ fine.
        ap (λ (shards : List ℕ). shards ++ shard ∷ []) (so_far.improvable (omega (arith, fine)))
        ∙ sym (ap (λ (b : Bool). cond b (improvable_shards old shard ++ shard ∷ []) (improvable_shards old shard))
        (sym improvable_same ∙ sym (turns.which refl)));
    each = λ fine other low. last fine other low (cases_eq other shard);
  }
    where
      there : (other : ℕ) → other ≡ shard → layout_in new other ≡ tended_in old other
      there other same = turns.layouts other
          ∙ ap (λ (b : Bool). cond (b && true) (tended_in now shard) (layout_in now other)) (eq-eqb other shard same)
          ∙ tended_same ∙ ap (tended_in old) (sym same)

      elsewhere : (other : ℕ) → other ≢ shard → layout_in new other ≡ layout_in now other
      elsewhere other apart = turns.layouts other
          ∙ ap (λ (b : Bool). cond (b && true) (tended_in now shard) (layout_in now other)) (ne_eqb other shard apart)

      go : (other : ℕ) → (other ≡ shard) ⊎ (other ≢ shard) → layout_in new other ≡ layout_after old (so_far.swapped ++ shard ∷ []) other
      go other (inl same) = there other same
          ∙ sym (ap (λ (b : Bool). cond b (tended_in old other) (layout_in old other))
          (ap (is_among (so_far.swapped ++ shard ∷ [])) same ∙ among_last so_far.swapped shard))
      go other (inr apart) = elsewhere other apart ∙ so_far.layouts other
          ∙ sym (ap (λ (b : Bool). cond b (tended_in old other) (layout_in old other)) (among_other so_far.swapped shard other apart))

      last : tended.nomem + 0 ≡ 0 → (other : ℕ) → other < suc shard → (other ≡ shard) ⊎ (other ≢ shard) → layout_in new other ≡ tended_in old other
      last fine other low (inl same) = there other same
      last fine other low (inr apart) = elsewhere other apart ∙ so_far.each (omega (arith, fine)) other (omega (arith, low, apart))

  pub turns_alone : (turn : ShardTurn) → TurnsAlone now new shard turn → TendsAlone old new (counted_turn tended turn) (suc shard)
  turns_alone Stays turns = stays_alone Stays turns refl
  turns_alone Swapped turns = swaps_alone turns
  turns_alone Moved turns = stays_alone Moved turns refl
  turns_alone NoMemory turns = stays_alone NoMemory turns refl

-- by the number of the next shard
pub turns_alone_more : CheaperBySwaps → (old now new : DeskState) (tended : Tended) (shard : ℕ) → TendsAlone old now tended shard → KeepsOwnDesk old now
    → old.alone ≡ true → (turn : ShardTurn) → TurnsAlone now new shard turn → TendsAlone old new (counted_turn tended turn) (shard + 1)
turns_alone_more law old now new tended shard so_far keeps alone turn turns =
    let is : shard + 1 ≡ suc shard = omega arith in
    subst (TendsAlone old new (counted_turn tended turn)) (sym is) (turns_alone law old now new tended shard so_far keeps alone turn turns)

-- ---- what stays known, and the steps

pub keeps_known : (old now new : DeskState) (first between after : FrontState → Type 0) → KeepsOwnDesk old now → KeepsOwnDesk now new
    → KeepsKnown now first between → KeepsKnown new between after → KeepsKnown new first after
keeps_known old now new first between after early late one two front own known =
    two front own (one front (ap (λ live. live_at live front.id) (sym late.fronts) ∙ own) known)

pub counted_few : (tended : Tended) (turn : ShardTurn) (shard : ℕ) → turns_in tended ≤ shard → turns_in (counted_turn tended turn) ≤ shard + 1
counted_few tended Stays shard few = omega (arith, few)
counted_few tended Swapped shard few = omega (arith, few)
counted_few tended Moved shard few = omega (arith, few)
counted_few tended NoMemory shard few = omega (arith, few)

times_more : (shard less more : ℕ) → less ≤ more → shard * less ≤ shard * more
times_more zero less more low = omega arith
times_more (suc shard) less more low = omega (arith, low, times_more shard less more low)

pub bound_more : (from before to shard seen later : ℕ) → before ≤ from + shard * (80 + 3 * seen) → to ≤ before + (80 + 3 * later) → seen ≤ later
    → to ≤ from + (shard + 1) * (80 + 3 * later)
bound_more from before to shard seen later so_far step low =
    let one : (shard + 1) * (80 + 3 * later) ≡ shard * (80 + 3 * later) + (80 + 3 * later) = solve_more in
    omega (arith, so_far, step, times_more shard (80 + 3 * seen) (80 + 3 * later) (omega (arith, low)), one)
  where
    solve_more : (shard + 1) * (80 + 3 * later) ≡ shard * (80 + 3 * later) + (80 + 3 * later)
    solve_more = omega arith
