-- The positions of live fronts, gathered one front after the other.
use Rattle.std.proofs.Common.{◌≡◌, ◌⊎◌, inl, inr, ℕ, ◌<◌, ◌≤◌, ◌==◌, ◌||◌, Bool, true, false, List, [], ◌∷◌, Option, Some, None, Contains, length, refl, sym, ap, subst, ◌∙◌, arith, eq-eqb, eqb-true}
use Rattle.std.specs.List.{AllByRecursion}
use Rattle.slab.specs.Slab.{Slab, entries, get}
use Rattle.slab.proofs.SlabLemmas.{Contains-cons, Contains-cons_cases, Contains-entries}
use Rattle.commit_journal.specs.Fronts.{AreOlder, ArePositionsInOrder, StandsAt, has_position, positions_of}
use Rattle.commit_journal.specs.Kept.{AddsPosition, live_of}
use Rattle.commit_journal.proofs.LiveLemmas.{second, slab_at}

-- the live fronts that aren't gone over, each with its number
abbrev Left : Type 0
Left = List (ℕ × (ℕ × ℕ))

-- the positions below a position, but for those of the fronts that are left
pub record Gathered (slab : Slab (ℕ × ℕ)) (position : ℕ) (older : List ℕ) (left : Left) : Type 0 where
  pub ascending : ArePositionsInOrder older
  pub below : AllByRecursion (λ other. other < position) older
  pub only : (other : ℕ) → has_position older other ≡ true → StandsAt (positions_of (live_of slab)) other
  pub all : (id who other : ℕ) → get slab id ≡ Some (who, other) → other < position → (has_position older other ≡ true) ⊎ Contains left (id, (who, other))
  pub listed : (id who other : ℕ) → Contains left (id, (who, other)) → get slab id ≡ Some (who, other)

-- none is gathered
pub gathered_first : (slab : Slab (ℕ × ℕ)) (position : ℕ) (older : List ℕ) (left : Left) → older ≡ [] → left ≡ entries slab → Gathered slab position older left
gathered_first slab position older left none whole = record {
  ascending = subst ArePositionsInOrder (sym none) tt;
  below = subst (AllByRecursion (λ other. other < position)) (sym none) tt;
  only = λ other has. absurd (let not : has_position older other ≡ false = ap (λ (xs : List ℕ). has_position xs other) none in cc);
  all = λ id who other stands low.
      inr (subst (λ (es : Left). Contains es (id, (who, other))) (sym whole) ((Contains-entries slab id (who, other)).1 stands));
  listed = λ id who other there. (Contains-entries slab id (who, other)).0 (subst (λ (es : Left). Contains es (id, (who, other))) whole there);
}

or_cases : (a b : Bool) → (a || b) ≡ true → (a ≡ true) ⊎ (b ≡ true)
or_cases true b h = inl refl
or_cases false b h = inr h

or_first : (a b : Bool) → a ≡ true → (a || b) ≡ true
or_first true b h = refl
or_first false b h = cc

or_second : (a b : Bool) → b ≡ true → (a || b) ≡ true
or_second true b h = refl
or_second false b h = h

module _ (slab : Slab (ℕ × ℕ)) (position : ℕ) (older : List ℕ) (before left : Left) (entry : ℕ × (ℕ × ℕ)) (gathered : Gathered slab position older before)
    (cut : before ≡ entry ∷ left) where
  listed_left : (id who other : ℕ) → Contains left (id, (who, other)) → get slab id ≡ Some (who, other)
  listed_left id who other there =
      gathered.listed id who other (subst (λ (es : Left). Contains es (id, (who, other))) (sym cut) (Contains-cons entry (id, (who, other)) left there))

  stands_here : get slab entry.0 ≡ Some entry.1
  stands_here = gathered.listed entry.0 entry.1.0 entry.1.1 (subst (λ (es : Left). Contains es entry) (sym cut) (0, omega arith, refl))

  here_or_left : (id who other : ℕ) → Contains before (id, (who, other)) → (entry.1.1 ≡ other) ⊎ Contains left (id, (who, other))
  here_or_left id who other there =
      elim (Contains-cons_cases entry (id, (who, other)) left (subst (λ (es : Left). Contains es (id, (who, other))) cut there)) [
        | inl same ↦ inl (ap (λ (each : ℕ × (ℕ × ℕ)). each.1.1) same)
        | inr rest ↦ inr rest
      ]

  -- a front below the position
  gathered_below : (new : List ℕ) → entry.1.1 < position → AddsPosition older entry.1.1 new → Gathered slab position new left
  gathered_below new low adds = record {
    ascending = adds.ascending;
    below = adds.below position gathered.below low;
    only = λ other has. elim (or_cases (has_position older other) (entry.1.1 == other) (sym (adds.has other) ∙ has)) [
      | inl old ↦ gathered.only other old
      | inr same ↦ record { number = entry.0; stands = ap second (slab_at slab entry.0 ∙ stands_here) ∙ ap Some (eqb-true entry.1.1 other same) }
    ];
    all = λ id who other stands below. elim (gathered.all id who other stands below) [
      | inl has ↦ inl (adds.has other ∙ or_first (has_position older other) (entry.1.1 == other) has)
      | inr there ↦ elim (here_or_left id who other there) [
        | inl same ↦ inl (adds.has other ∙ or_second (has_position older other) (entry.1.1 == other) (eq-eqb entry.1.1 other same))
        | inr rest ↦ inr rest
      ]
    ];
    listed = listed_left;
  }

  -- a front at the position or beyond it
  gathered_beyond : position ≤ entry.1.1 → Gathered slab position older left
  gathered_beyond high = record {
    ascending = gathered.ascending;
    below = gathered.below;
    only = gathered.only;
    all = λ id who other stands below. elim (gathered.all id who other stands below) [
      | inl has ↦ inl has
      | inr there ↦ elim (here_or_left id who other there) [
        | inl same ↦ absurd (omega (arith, same, high, below))
        | inr rest ↦ inr rest
      ]
    ];
    listed = listed_left;
  }

-- one front is gone over
pub gathered_more : (slab : Slab (ℕ × ℕ)) (position : ℕ) (older new : List ℕ) (before left : Left) (entry : ℕ × (ℕ × ℕ)) → Gathered slab position older before
    → before ≡ entry ∷ left → entry.1.1 < position → AddsPosition older entry.1.1 new → Gathered slab position new left
gathered_more slab position older new before left entry gathered cut low adds = gathered_below slab position older before left entry gathered cut new low adds

pub gathered_past : (slab : Slab (ℕ × ℕ)) (position : ℕ) (older : List ℕ) (before left : Left) (entry : ℕ × (ℕ × ℕ)) → Gathered slab position older before
    → before ≡ entry ∷ left → position ≤ entry.1.1 → Gathered slab position older left
gathered_past slab position older before left entry gathered cut high = gathered_beyond slab position older before left entry gathered cut high

-- none is left
pub gathered_all : (slab : Slab (ℕ × ℕ)) (position : ℕ) (older : List ℕ) (left : Left) → Gathered slab position older left
    → left ≡ [] → AreOlder (live_of slab) position older
gathered_all slab position older left gathered none = record {
  ascending = gathered.ascending;
  below = gathered.below;
  only = gathered.only;
  all = λ other stands below. go stands.number other below (get slab stands.number) refl (ap second (sym (slab_at slab stands.number)) ∙ stands.stands);
}
  where
    go : (id other : ℕ) → other < position → (found : Option (ℕ × ℕ)) → get slab id ≡ found → second found ≡ Some other → has_position older other ≡ true
    go id other below None there h = cc
    go id other below (Some pair) there h =
        let same : pair.1 ≡ other = cc in
        elim (gathered.all id pair.0 other (there ∙ ap (λ (n : ℕ). Some (pair.0, n)) same) below) [
          | inl has ↦ has
          | inr listed ↦ absurd (let nothing = ap length none in omega (arith, listed.1, nothing))
        ]
