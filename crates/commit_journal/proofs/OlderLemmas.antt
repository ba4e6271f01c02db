-- Positions that ascend, and one put among them.
use Rattle.std.proofs.Common.{◌≡◌, ℕ, zero, suc, ◌+◌, ◌<◌, ◌≤◌, ◌==◌, ◌||◌, Bool, true, false, List, [], ◌∷◌, ◌++◌, length, take, drop, get_or, refl, sym, ap, ◌∙◌, arith, eq-eqb, eqb-true, subst}
use Rattle.std.specs.List.{AllByRecursion, insert}
use Rattle.std.proofs.lemmas.List.Folds.{list_any-append}
use Rattle.std.proofs.lemmas.List.{append-nil, take-append-drop, drop_more, take_all}
use Rattle.commit_journal.specs.Fronts.{ArePositionsInOrder, has_position}
use Rattle.commit_journal.specs.Kept.{AddsPosition}

all_append : (P : ℕ → Type 0) (xs ys : List ℕ) → AllByRecursion P xs → AllByRecursion P ys → AllByRecursion P (xs ++ ys)
all_append P [] ys front back = back
all_append P (x ∷ xs) ys front back = (front.0, all_append P xs ys front.1 back)

all_front : (P : ℕ → Type 0) (xs ys : List ℕ) → AllByRecursion P (xs ++ ys) → AllByRecursion P xs
all_front P [] ys all = tt
all_front P (x ∷ xs) ys all = (all.0, all_front P xs ys all.1)

all_back : (P : ℕ → Type 0) (xs ys : List ℕ) → AllByRecursion P (xs ++ ys) → AllByRecursion P ys
all_back P [] ys all = all
all_back P (x ∷ xs) ys all = all_back P xs ys all.1

all_above : (low high : ℕ) (xs : List ℕ) → low < high → AllByRecursion (λ y. high < y) xs → AllByRecursion (λ y. low < y) xs
all_above low high [] less all = tt
all_above low high (x ∷ xs) less all = (omega (arith, all.0), all_above low high xs less all.1)

ascends_back : (xs ys : List ℕ) → ArePositionsInOrder (xs ++ ys) → ArePositionsInOrder ys
ascends_back [] ys up = up
ascends_back (x ∷ xs) ys up = ascends_back xs ys up.1

-- a position between those below it and those above it
ascends_between : (front back : List ℕ) (position : ℕ) → ArePositionsInOrder (front ++ back)
    → AllByRecursion (λ other. other < position) front → AllByRecursion (λ other. position < other) back
    → ArePositionsInOrder (front ++ position ∷ back)
ascends_between [] back position up low high = (high, up)
ascends_between (x ∷ front) back position up low high = (
  all_append (λ y. x < y) front (position ∷ back) (all_front (λ y. x < y) front back up.0) (low.0, all_back (λ y. x < y) front back up.0),
  ascends_between front back position up.1 low.1 high,
)

has_between : (front back : List ℕ) (position other : ℕ)
    → has_position (front ++ position ∷ back) other ≡ (has_position (front ++ back) other || (position == other))
has_between front back position other =
    rw (list_any-append (λ each. each == other) front (position ∷ back), list_any-append (λ each. each == other) front back)
    (go (has_position front other) (has_position back other) (position == other))
  where
    go : (a b c : Bool) → (a || (c || b)) ≡ ((a || b) || c)
    go true b c = refl
    go false true true = refl
    go false true false = refl
    go false false true = refl
    go false false false = refl

below_between : (front back : List ℕ) (position bound : ℕ) → AllByRecursion (λ other. other < bound) (front ++ back)
    → position < bound → AllByRecursion (λ other. other < bound) (front ++ position ∷ back)
below_between front back position bound all one =
    all_append (λ other. other < bound) front (position ∷ back) (all_front (λ other. other < bound) front back all)
    (one, all_back (λ other. other < bound) front back all)

-- a position put among those below it and those above it
between : (front back : List ℕ) (position : ℕ) → ArePositionsInOrder (front ++ back)
    → AllByRecursion (λ other. other < position) front → AllByRecursion (λ other. position < other) back
    → AddsPosition (front ++ back) position (front ++ position ∷ back)
between front back position up low high = record {
  ascending = ascends_between front back position up low high;
  has = has_between front back position;
  below = λ bound all one. below_between front back position bound all one;
}

-- put before the first that is above it
pub put_before : (positions : List ℕ) (place position d : ℕ) → ArePositionsInOrder positions → place < length positions
    → AllByRecursion (λ other. other < position) (take place positions)
    → position < get_or positions place d → AddsPosition positions position (insert positions place position)
put_before positions place position d up inside low above =
    let whole = take-append-drop place positions in
    let here : drop place positions ≡ get_or positions place d ∷ drop (place + 1) positions = drop_more positions place d inside in
    let cut : ArePositionsInOrder (take place positions ++ drop place positions) = subst ArePositionsInOrder (sym whole) up in
    let tail : ArePositionsInOrder (get_or positions place d ∷ drop (place + 1) positions) =
    subst ArePositionsInOrder here (ascends_back (take place positions) (drop place positions) cut) in
    let high : AllByRecursion (λ other. position < other) (drop place positions) =
    subst (AllByRecursion (λ other. position < other)) (sym here)
    (above, all_above position (get_or positions place d) (drop (place + 1) positions) above tail.0) in
    subst (λ (old : List ℕ). AddsPosition old position (insert positions place position)) whole
    (between (take place positions) (drop place positions) position cut low high)

-- put at the end
pub put_last : (positions : List ℕ) (place position : ℕ) → ArePositionsInOrder positions → length positions ≤ place
    → AllByRecursion (λ other. other < position) (take place positions)
    → AddsPosition positions position (positions ++ position ∷ [])
put_last positions place position up end low =
    let all : take place positions ≡ positions = take_all place positions end in
    let none : positions ++ [] ≡ positions = append-nil positions in
    subst (λ (old : List ℕ). AddsPosition old position (positions ++ position ∷ [])) none
    (between positions [] position (subst ArePositionsInOrder (sym none) up) (subst (AllByRecursion (λ other. other < position)) all low) tt)

-- it is there
has_here : (positions : List ℕ) (place position d : ℕ) → place < length positions → get_or positions place d ≡ position → has_position positions position ≡ true
has_here [] place position d inside at = absurd (omega arith)
has_here (x ∷ positions) zero position d inside at = rw (eq-eqb x position at) refl
has_here (x ∷ positions) (suc place) position d inside at =
    go (x == position) (has_here positions place position d (omega arith) at)
  where
    go : (b : Bool) → has_position positions position ≡ true → (b || has_position positions position) ≡ true
    go true h = refl
    go false h = h

or_true : (b : Bool) → (b || true) ≡ true
or_true true = refl
or_true false = refl

or_false : (b : Bool) → (b || false) ≡ b
or_false true = refl
or_false false = refl

pub already_there : (positions : List ℕ) (place position d : ℕ) → ArePositionsInOrder positions → place < length positions
    → get_or positions place d ≡ position → AddsPosition positions position positions
already_there positions place position d up inside at = record {
  ascending = up;
  has = λ other. go other (position == other) refl;
  below = λ bound all one. all;
}
  where
    go : (other : ℕ) (b : Bool) → (position == other) ≡ b → has_position positions other ≡ (has_position positions other || (position == other))
    go other true e =
        ap (has_position positions) (sym (eqb-true position other e)) ∙ has_here positions place position d inside at
        ∙ sym (ap (λ (b : Bool). has_position positions other || b) e ∙ or_true (has_position positions other))
    go other false e = sym (ap (λ (b : Bool). has_position positions other || b) e ∙ or_false (has_position positions other))
