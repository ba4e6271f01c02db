-- Fronts that are held, as they come and go.
use Rattle.std.proofs.Common.{◌≡◌, ◌≢◌, ◌⊎◌, inl, inr, ℕ, ◌==◌, Bool, true, false, cond, Option, Some, None, refl, sym, ap, subst, ◌∙◌, eq-eqb, eqb-true}
use Rattle.std.specs.Prelude.{◌↔◌, length, option_map}
use Rattle.std.specs.Cmp.{nat_cmp_total}
use Rattle.std.specs.FinMap.{insert, nat_cmp-IsAntisymmetric, remove, same_map}
use Rattle.std.proofs.lemmas.Bool.{cases_Bool, cases_eq, ne_eqb}
use Rattle.std.proofs.lemmas.Option.{none-some, same_Some}
use Rattle.commit_journal.specs.Fronts.{FrontState, Live, StandsAt, live_at, position_of, positions_of}
use Rattle.commit_journal.specs.Journals.{IsLive, JournalState, KeepsFronts, KnowsFront, Opens, without_front}
use Rattle.commit_journal.proofs.LiveLemmas.{after_insert, after_remove}
use Rattle.world_bridge.specs.Held.{HasHolder, HoldsLive, positions_held}

pub live_inserted : (live : Live) (id other : ℕ) (pair : ℕ × ℕ)
    → live_at (insert live id pair) other ≡ cond (other == id) (Some pair) (live_at live other)
live_inserted live id other pair = after_insert live id pair other

pub live_removed : (live : Live) (id other : ℕ) → live_at (remove live id) other ≡ cond (other == id) None (live_at live other)
live_removed live id other = after_remove live id other

-- a front that came and went leaves the live fronts as they were
pub live_closed_again : (live : Live) (id : ℕ) (pair : ℕ × ℕ) → live_at live id ≡ None → remove (insert live id pair) id ≡ live
live_closed_again live id pair none = same_map nat_cmp_total nat_cmp-IsAntisymmetric _ _ (λ other.
    live_removed (insert live id pair) id other ∙ go other (other == id) refl)
  where
    go : (other : ℕ) (here : Bool) → (other == id) ≡ here → cond here None (live_at (insert live id pair) other) ≡ live_at live other
    go other true e = sym (ap (live_at live) (eqb-true other id e) ∙ none)
    go other false e = live_inserted live id other pair ∙ ap (λ (b : Bool). cond b (Some pair) (live_at live other)) e

-- ---- the numbers of holders
module _ (fronts after : ℕ → Option FrontState) (number : ℕ) (others : (other : ℕ) → other ≢ number → after other ≡ fronts other) where
  -- what is held afterwards was held before, or is held at the number
  held_before : (holder : ℕ) (front : FrontState) → after holder ≡ Some front
      → (holder ≡ number) ⊎ (fronts holder ≡ Some front)
  held_before holder front holds = elim (cases_eq holder number) [
    | inl here ↦ inl here
    | inr apart ↦ inr (sym (others holder apart) ∙ holds)
  ]

-- ---- a front more
module _ (old new : JournalState) (fronts after : ℕ → Option FrontState) (number who : ℕ) (front : FrontState)
    (is : HoldsLive old fronts) (none : fronts number ≡ None) (opens : Opens old new who front) (live : IsLive new front)
    (knows : KnowsFront new front) (keeps : KeepsFronts old new) (here : after number ≡ Some front)
    (others : (other : ℕ) → other ≢ number → after other ≡ fronts other) where
  live_now : (id : ℕ) → live_at new.live id ≡ cond (id == front.id) (Some (who, length old.history)) (live_at old.live id)
  live_now id = ap (λ (journal : JournalState). live_at journal.live id) opens.after
      ∙ live_inserted old.live front.id id (who, length old.history)

  -- no front before has its number
  apart : (id : ℕ) (pair : ℕ × ℕ) → live_at old.live id ≡ Some pair → id ≢ front.id
  apart id pair was same = none-some pair (sym opens.fresh ∙ ap (live_at old.live) (sym same) ∙ was)

  still_live : (id : ℕ) (pair : ℕ × ℕ) → live_at old.live id ≡ Some pair → live_at new.live id ≡ Some pair
  still_live id pair was = live_now id
      ∙ ap (λ (b : Bool). cond b (Some (who, length old.history)) (live_at old.live id)) (ne_eqb id front.id (apart id pair was)) ∙ was

  -- the front at the number is the new one
  is_new : (other : FrontState) → after number ≡ Some other → front ≡ other
  is_new other there = same_Some front other (sym here ∙ there)

  each_live : (holder : ℕ) (other : FrontState) → after holder ≡ Some other → IsLive new other
  each_live holder other there = elim (held_before fronts after number others holder other there) [
    | inl at ↦ subst (IsLive new) (is_new other (ap after (sym at) ∙ there)) live
    | inr before ↦ still_live other.id (other.who, position_of other) (is.live holder other before)
  ]

  each_known : (holder : ℕ) (other : FrontState) → after holder ≡ Some other → KnowsFront new other
  each_known holder other there = elim (held_before fronts after number others holder other there) [
    | inl at ↦ subst (KnowsFront new) (is_new other (ap after (sym at) ∙ there)) knows
    | inr before ↦ keeps other (is.known holder other before)
  ]

  each_once : (holder other : ℕ) (one second : FrontState) → after holder ≡ Some one → after other ≡ Some second
      → one.id ≡ second.id → holder ≡ other
  each_once holder other one second there too same =
      elim (held_before fronts after number others holder one there) [
        | inl at ↦ elim (held_before fronts after number others other second too) [
          | inl also ↦ at ∙ sym also
          | inr before ↦ absurd (apart second.id (second.who, position_of second) (is.live other second before)
              (sym same ∙ ap (λ (each : FrontState). each.id) (sym (is_new one (ap after (sym at) ∙ there)))))
        ]
        | inr before ↦ elim (held_before fronts after number others other second too) [
          | inl also ↦ absurd (apart one.id (one.who, position_of one) (is.live holder one before)
              (same ∙ ap (λ (each : FrontState). each.id) (sym (is_new second (ap after (sym also) ∙ too)))))
          | inr both ↦ is.once holder other one second before both same
        ]
      ]

  all_held : (id : ℕ) (pair : ℕ × ℕ) → live_at new.live id ≡ Some pair → HasHolder after id
  all_held id pair stands = elim (cases_Bool (id == front.id)) [
    | inl this ↦ record { holder = number; front = front; holds = here; numbered = sym (eqb-true id front.id this) }
    | inr other ↦
        (let was = is.all id pair (sym (ap (λ (b : Bool). cond b (Some (who, length old.history)) (live_at old.live id)) other)
        ∙ sym (live_now id) ∙ stands) in
        record {
          holder = was.holder;
          front = was.front;
          holds = others was.holder (λ at. none-some was.front (sym none ∙ ap fronts (sym at) ∙ was.holds)) ∙ was.holds;
          numbered = was.numbered;
        })
  ]

  pub held_opened : HoldsLive new after
  held_opened = record { live = each_live; known = each_known; once = each_once; all = all_held }

-- ---- a front less
module _ (old : JournalState) (fronts after : ℕ → Option FrontState) (number : ℕ) (front : FrontState)
    (is : HoldsLive old fronts) (was : fronts number ≡ Some front) (keeps : KeepsFronts old (without_front old front.id))
    (gone : after number ≡ None) (others : (other : ℕ) → other ≢ number → after other ≡ fronts other) where
  -- what is held afterwards was held before, elsewhere
  held_elsewhere : (holder : ℕ) (other : FrontState) → after holder ≡ Some other → (fronts holder ≡ Some other) × (holder ≢ number)
  held_elsewhere holder other there =
      let away : holder ≢ number = λ at. none-some other (sym gone ∙ ap after (sym at) ∙ there) in
      (sym (others holder away) ∙ there, away)

  left_live : (holder : ℕ) (other : FrontState) → after holder ≡ Some other → IsLive (without_front old front.id) other
  left_live holder other there =
      let before = held_elsewhere holder other there in
      live_removed old.live front.id other.id
      ∙ ap (λ (b : Bool). cond b None (live_at old.live other.id))
      (ne_eqb other.id front.id (λ same. before.1 (is.once holder number other front before.0 was same)))
      ∙ is.live holder other before.0

  left_held : (id : ℕ) (pair : ℕ × ℕ) → live_at (remove old.live front.id) id ≡ Some pair → HasHolder after id
  left_held id pair stands = elim (cases_Bool (id == front.id)) [
    | inl this ↦ absurd (none-some pair (sym (ap (λ (b : Bool). cond b None (live_at old.live id)) this)
        ∙ sym (live_removed old.live front.id id) ∙ stands))
    | inr other ↦
        (let there = is.all id pair (sym (ap (λ (b : Bool). cond b None (live_at old.live id)) other)
        ∙ sym (live_removed old.live front.id id) ∙ stands) in
        record {
          holder = there.holder;
          front = there.front;
          holds = others there.holder (apart there.holder there.front there.holds there.numbered other) ∙ there.holds;
          numbered = there.numbered;
        })
  ]
    where
      apart : (holder : ℕ) (held : FrontState) → fronts holder ≡ Some held → held.id ≡ id → (id == front.id) ≡ false → holder ≢ number
      apart holder held holds numbered other at =
          let same : front ≡ held = same_Some front held (sym was ∙ ap fronts (sym at) ∙ holds) in
          let one : id ≡ front.id = sym numbered ∙ ap (λ (each : FrontState). each.id) (sym same) in
          let yes : (id == front.id) ≡ true = eq-eqb id front.id one in
          cc

  pub held_closed : HoldsLive (without_front old front.id) after
  held_closed = record {
    live = left_live;
    known = λ holder other there. keeps other (is.known holder other (held_elsewhere holder other there).0);
    once = λ holder other one second there too same.
        is.once holder other one second (held_elsewhere holder one there).0 (held_elsewhere other second too).0 same;
    all = left_held;
  }

-- ---- the same fronts
pub held_grown : (old new : JournalState) (fronts : ℕ → Option FrontState) → HoldsLive old fronts → new.live ≡ old.live → KeepsFronts old new
    → HoldsLive new fronts
held_grown old new fronts is same keeps = record {
  live = λ holder front there. ap (λ (live : Live). live_at live front.id) same ∙ is.live holder front there;
  known = λ holder front there. keeps front (is.known holder front there);
  once = is.once;
  all = λ id pair stands. is.all id pair (ap (λ (live : Live). live_at live id) (sym same) ∙ stands);
}

-- a holder that holds as before
pub held_same : (journal : JournalState) (fronts after : ℕ → Option FrontState) (number : ℕ) → HoldsLive journal fronts
    → after number ≡ fronts number → ((other : ℕ) → other ≢ number → after other ≡ fronts other) → HoldsLive journal after
held_same journal fronts after number is here others = record {
  live = λ holder front there. is.live holder front (sym (same holder) ∙ there);
  known = λ holder front there. is.known holder front (sym (same holder) ∙ there);
  once = λ holder other front second there too. is.once holder other front second (sym (same holder) ∙ there) (sym (same other) ∙ too);
  all = λ id pair stands. (let was = is.all id pair stands in
      record { holder = was.holder; front = was.front; holds = same was.holder ∙ was.holds; numbered = was.numbered });
}
  where
    same : (holder : ℕ) → after holder ≡ fronts holder
    same holder = elim (cases_eq holder number) [
      | inl at ↦ ap after at ∙ here ∙ ap fronts (sym at)
      | inr apart ↦ others holder apart
    ]

-- ---- positions
module _ (journal : JournalState) (fronts : ℕ → Option FrontState) (position : ℕ) (is : HoldsLive journal fronts) where
  stands_held : StandsAt (positions_of journal.live) position → StandsAt (positions_held fronts) position
  stands_held stands = go (live_at journal.live stands.number) refl stands.stands
    where
      go : (found : Option (ℕ × ℕ)) → live_at journal.live stands.number ≡ found → option_map (λ pair. pair.1) found ≡ Some position
          → StandsAt (positions_held fronts) position
      go None e h = absurd (none-some position h)
      go (Some pair) e h =
          let held = is.all stands.number pair e in
          let both : (held.front.who, position_of held.front) ≡ pair =
          same_Some (held.front.who, position_of held.front) pair
          (sym (is.live held.holder held.front held.holds) ∙ ap (live_at journal.live) held.numbered ∙ e) in
          record {
            number = held.holder;
            stands = ap (option_map position_of) held.holds ∙ ap (λ (one : ℕ × ℕ). Some one.1) both ∙ h;
          }

  held_stands : StandsAt (positions_held fronts) position → StandsAt (positions_of journal.live) position
  held_stands stands = go (fronts stands.number) refl stands.stands
    where
      go : (found : Option FrontState) → fronts stands.number ≡ found → option_map position_of found ≡ Some position
          → StandsAt (positions_of journal.live) position
      go None e h = absurd (none-some position h)
      go (Some front) e h = record {
        number = front.id;
        stands = ap (option_map (λ pair. pair.1)) (is.live stands.number front e) ∙ h;
      }

  pub positions_same : StandsAt (positions_of journal.live) position ↔ StandsAt (positions_held fronts) position
  positions_same = (stands_held, held_stands)
