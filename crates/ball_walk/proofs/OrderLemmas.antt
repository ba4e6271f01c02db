-- A ball is in order: each ring ascends, and each later ring is further away.
use Rattle.std.proofs.Common.{◌≡◌, ℕ, zero, suc, ◌+◌, ◌^◌, ◌<◌, ◌≤◌, ◌==◌, inl, inr, Bool, true, List, [], ◌∷◌, ◌++◌, filter, length, get_or, All, sym, ◌∙◌, arith}
use Rattle.std.specs.List.{flat_map, range_with_len}
use Rattle.std.proofs.lemmas.List.Elements.{All-head, All-tail, All-nil, All-append, All-weaker, All-filter, filter_passes}
use Rattle.std.proofs.lemmas.List.FromFn.{length-range_with_len, get_or-range_with_len}
use Rattle.std.proofs.lemmas.Bool.{cases_eq, eq-eqb, ne_eqb, eqb-true}
use Rattle.ball_walk.specs.Balls.{value_distance, values, ring, ball, IsBefore}

-- each element comes before all later ones
abbrev IsOrdered : ℕ → List ℕ → Type 0
IsOrdered value [] = Unit {0}
IsOrdered value (x ∷ xs) = All (IsBefore value x) xs × IsOrdered value xs

ordered_at : (value : ℕ) (xs : List ℕ) (first second : ℕ) → IsOrdered value xs → first < second → second < length xs
    → IsBefore value (get_or xs first 0) (get_or xs second 0)
ordered_at value [] first second ordered before inside = absurd (omega arith)
ordered_at value (x ∷ xs) first zero ordered before inside = absurd (omega arith)
ordered_at value (x ∷ xs) zero (suc second) ordered before inside = ordered.0 second 0 (omega arith)
ordered_at value (x ∷ xs) (suc first) (suc second) ordered before inside =
    ordered_at value xs first second ordered.1 (omega arith) (omega arith)

ordered_append : (value : ℕ) (xs ys : List ℕ) → IsOrdered value xs → IsOrdered value ys → All (λ x. All (IsBefore value x) ys) xs
    → IsOrdered value (xs ++ ys)
ordered_append value [] ys front back cross = back
ordered_append value (x ∷ xs) ys front back cross = (
  All-append (IsBefore value x) xs ys front.0 (All-head (λ z. All (IsBefore value z) ys) x xs cross),
  ordered_append value xs ys front.1 back (All-tail (λ z. All (IsBefore value z) ys) x xs cross),
)

range_above : (from n : ℕ) → All (λ x. from ≤ x) (range_with_len from n)
range_above from n k d inside =
    let short : k < n = (let e = length-range_with_len from n in omega arith) in
    let at = get_or-range_with_len from n k d short in
    omega arith

-- what is kept at a distance is at that distance
kept_at : (value apart : ℕ) (xs : List ℕ) → All (λ x. value_distance x value ≡ apart) (filter (λ other. value_distance other value == apart) xs)
kept_at value apart xs =
    All-weaker (λ x. (value_distance x value == apart) ≡ true) (λ x. value_distance x value ≡ apart)
    (λ x passes. eqb-true (value_distance x value) apart passes)
    (filter (λ other. value_distance other value == apart) xs) (filter_passes (λ other. value_distance other value == apart) xs)

ring_ordered : (value apart from n : ℕ) → IsOrdered value (filter (λ other. value_distance other value == apart) (range_with_len from n))
ring_ordered value apart from zero = tt
ring_ordered value apart from (suc n) =
    let test : ℕ → Bool = λ other. value_distance other value == apart in
    let later : List ℕ = filter test (range_with_len (from + 1) n) in
    let rest : IsOrdered value later = ring_ordered value apart (from + 1) n in
    elim (cases_eq (value_distance from value) apart) [
      | inl same ↦
          rw (eq-eqb (value_distance from value) apart same) (
            (λ k d inside.
                let near = kept_at value apart (range_with_len (from + 1) n) k d inside in
                let above = All-filter test (λ x. from + 1 ≤ x) (range_with_len (from + 1) n) (range_above (from + 1) n) k d inside in
                inr (same ∙ sym near, omega arith)),
            rest,
          )
      | inr other ↦ rw (ne_eqb (value_distance from value) apart other) rest
    ]

ring_apart : (value width apart : ℕ) → All (λ x. value_distance x value ≡ apart) (ring value width apart)
unfolding ring
ring_apart value width apart = kept_at value apart (values width)

ring_is_ordered : (value width apart : ℕ) → IsOrdered value (ring value width apart)
unfolding ring values
ring_is_ordered value width apart = ring_ordered value apart 0 (2 ^ width)

rings_above : (value width from n : ℕ) → All (λ x. from ≤ value_distance x value) (flat_map (ring value width) (range_with_len from n))
rings_above value width from zero = All-nil (λ x. from ≤ value_distance x value)
rings_above value width from (suc n) =
    All-append (λ x. from ≤ value_distance x value) (ring value width from) (flat_map (ring value width) (range_with_len (from + 1) n))
    (λ k d inside. let at = ring_apart value width from k d inside in omega arith)
    (λ k d inside. let at = rings_above value width (from + 1) n k d inside in omega arith)

rings_ordered : (value width from n : ℕ) → IsOrdered value (flat_map (ring value width) (range_with_len from n))
rings_ordered value width from zero = tt
rings_ordered value width from (suc n) =
    ordered_append value (ring value width from) (flat_map (ring value width) (range_with_len (from + 1) n))
    (ring_is_ordered value width from) (rings_ordered value width (from + 1) n)
    (λ k d inside j e within.
    let here = ring_apart value width from k d inside in
    let there = rings_above value width (from + 1) n j e within in
    inl (omega arith))

-- a ball is in order of distance and then of value
pub ball_order : (value width units first second : ℕ) → first < second → second < length (ball value width units)
    → IsBefore value (get_or (ball value width units) first 0) (get_or (ball value width units) second 0)
unfolding ball
ball_order value width units first second before inside =
    ordered_at value (flat_map (ring value width) (range_with_len 0 units)) first second (rings_ordered value width 0 units) before inside
