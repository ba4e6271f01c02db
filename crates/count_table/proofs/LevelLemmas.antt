-- Copies at one distance and within a radius: sums over the values, and their bounds.
use Rattle.std.proofs.Common.{◌≡◌, ℕ, zero, suc, ◌+◌, ◌^◌, ◌<◌, ◌≤◌, min, Bool, not, List, [], ◌∷◌, ◌++◌, length, filter, sum, sum_by, get_or, set, take, slice_index, inl, inr, get_or-set_same, get_or-set_other, refl, sym, ◌∙◌, ap, subst, arith, add-one}
use Rattle.std.specs.Int.RustNames.{bit_xor}
use Rattle.std.specs.List.{range_with_len}
use Rattle.std.proofs.lemmas.List.Sums.{sum_by-cons, sum_by-append, sum_by_more, sum_by-take-le}
use Rattle.std.proofs.lemmas.Bool.{cases_eq}
use Rattle.std.proofs.lemmas.List.Filters.{sum_by-filter_both}
use Rattle.ball_walk.specs.Balls.{value_distance, values, values_near, is_near, ring}
use Rattle.ball_walk.specs.Flips.{flips, flipped_ring}
use Rattle.ball_walk.proofs.BallLemmas.{range_append, ball_cut, ball_sum}
use Rattle.ball_walk.proofs.FlipLemmas.{sum_mapped}
use Rattle.ball_walk.proofs.SumLemmas.{sum_near_more, sum_near_none}
use Rattle.count_table.specs.Copies.{count_near}
use Rattle.count_table.specs.Kept.{AreKeptCopies, IsCountTable, kept_copies}
use Rattle.hamming_model.specs.declared.limits.TheConstants.{ENTRIES_MOST}

-- a list that counts up has one more number at its end
range_push : (n : ℕ) → range_with_len 0 (n + 1) ≡ range_with_len 0 n ++ n ∷ []
range_push n = let e : 0 + n ≡ n = omega arith in range_append 0 n 1 ∙ ap (λ m. range_with_len 0 n ++ m ∷ []) e

-- what is kept of a list has at most its sum
pub kept_le : (f : ℕ → ℕ) (test : ℕ → Bool) (xs : List ℕ) → sum_by f (filter test xs) ≤ sum_by f xs
kept_le f test xs = omega (arith, sum_by-filter_both test (λ x. not (test x)) (λ _. refl) f xs)

sum_read_more : (xs : List ℕ) (n : ℕ) → n < length xs → sum_by (λ at. get_or xs at 0) (range_with_len 0 n) ≡ sum (take n xs)
    → sum_by (λ at. get_or xs at 0) (range_with_len 0 (n + 1)) ≡ sum (take (n + 1) xs)
sum_read_more xs n fits before =
    let read = ap (sum_by (λ at. get_or xs at 0)) (range_push n) in
    let split = sum_by-append (λ at. get_or xs at 0) (range_with_len 0 n) (n ∷ []) in
    let last = sum_by-cons (λ at. get_or xs at 0) n [] in
    let taken = sum_by_more (λ (x : ℕ). x) xs n 0 fits in
    omega arith

-- the first numbers of a list, read by index
sum_read : (xs : List ℕ) (n : ℕ) → n ≤ length xs → sum_by (λ at. get_or xs at 0) (range_with_len 0 n) ≡ sum (take n xs)
sum_read xs zero short = refl
sum_read xs (suc n) short =
    let P : ℕ → Type 0 = λ m. sum_by (λ at. get_or xs at 0) (range_with_len 0 m) ≡ sum (take m xs) in
    let fits : n < length xs = omega arith in
    subst P (add-one n) (sum_read_more xs n fits (sum_read xs n (omega arith)))

sum_first_le : (xs : List ℕ) (n : ℕ) → n ≤ length xs → sum_by (λ at. get_or xs at 0) (range_with_len 0 n) ≤ sum xs
sum_first_le xs n short =
    let read = sum_read xs n short in
    let part = sum_by-take-le (λ (x : ℕ). x) xs n in
    omega arith

-- no radius has more copies than there are
pub near_le : (width value units : ℕ) (copies : List ℕ) → length copies ≡ 2 ^ width
    → count_near (record { width = width; copies = copies }) value units ≤ sum copies
unfolding count_near values_near values
near_le width value units copies long =
    let part = kept_le (λ at. get_or copies at 0) (is_near value units) (range_with_len 0 (2 ^ width)) in
    let first = sum_first_le copies (2 ^ width) (omega arith) in
    omega arith

-- at no unit there are no copies
pub near_none : (width value : ℕ) (copies : List ℕ) → count_near (record { width = width; copies = copies }) value 0 ≡ 0
unfolding count_near values_near is_near
near_none width value copies = sum_near_none (λ at. get_or copies at 0) (λ other. value_distance other value) (values width)

-- within one unit more those at that distance come in
pub near_more : (width value units : ℕ) (copies : List ℕ)
    → count_near (kept_copies width copies) value (units + 1)
    ≡ count_near (kept_copies width copies) value units + sum_by (slice_index copies) (ring value width units)
unfolding count_near values_near is_near ring
near_more width value units copies = sum_near_more (λ at. get_or copies at 0) (λ other. value_distance other value) units (values width)

-- no distance has more copies than there are
pub ring_le : (width value units : ℕ) (copies : List ℕ) → length copies ≡ 2 ^ width
    → sum_by (slice_index copies) (ring value width units) ≤ sum copies
ring_le width value units copies long =
    let more = near_more width value units copies in
    let few = near_le width value (units + 1) copies long in
    omega arith

-- beyond the width no more copies come in
pub near_cut : (width value units : ℕ) (copies : List ℕ) → value < 2 ^ width
    → count_near (kept_copies width copies) value (min units (width + 1)) ≡ count_near (kept_copies width copies) value units
unfolding count_near
near_cut width value units copies in_width =
    sym (ball_sum (slice_index copies) value width (min units (width + 1)))
    ∙ ap (sum_by (slice_index copies)) (ball_cut value width units in_width)
    ∙ ball_sum (slice_index copies) value width units

-- what the flips with so many ones make of a value has the copies at that distance
pub ring_flipped : (width value units : ℕ) (copies numbers : List ℕ) → numbers ≡ flips width units
    → sum_by (slice_index copies) (flipped_ring value width units) ≡ sum_by (slice_index copies) (ring value width units)
    → sum_by (λ flip. slice_index copies (bit_xor value flip)) numbers ≡ sum_by (slice_index copies) (ring value width units)
unfolding flipped_ring
ring_flipped width value units copies numbers is law =
    ap (sum_by (λ flip. slice_index copies (bit_xor value flip))) is
    ∙ sym (sum_mapped (slice_index copies) (bit_xor value) (flips width units)) ∙ law

-- the first place has none
pub levels_begun : (width value : ℕ) (copies out : List ℕ) → 0 < length out → (units : ℕ) → units ≤ 0
    → get_or (set out 0 0) units 0 ≡ count_near (kept_copies width copies) value units
levels_begun width value copies out some zero first = get_or-set_same out 0 0 0 some ∙ sym (near_none width value copies)
levels_begun width value copies out some (suc units) first = absurd (omega arith)

-- the next place has what the last one has and the copies at that distance
pub levels_next : (width value apart count : ℕ) (copies out : List ℕ) → apart + 1 < length out
    → count ≡ sum_by (slice_index copies) (ring value width apart)
    → ((units : ℕ) → units ≤ apart → get_or out units 0 ≡ count_near (kept_copies width copies) value units)
    → (units : ℕ) → units ≤ apart + 1
    → get_or (set out (apart + 1) (get_or out apart 0 + count)) units 0 ≡ count_near (kept_copies width copies) value units
levels_next width value apart count copies out inside is before units within =
    elim (cases_eq units (apart + 1)) [
      | inl same ↦
          let P : ℕ → Type 0 = λ n. get_or (set out (apart + 1) (get_or out apart 0 + count)) n 0 ≡ count_near (kept_copies width copies) value n in
          let written = get_or-set_same out (apart + 1) (get_or out apart 0 + count) 0 inside in
          let here = before apart (omega arith) in
          let more = near_more width value apart copies in
          subst P (sym same) (omega arith)
      | inr other ↦ get_or-set_other out (apart + 1) units (get_or out apart 0 + count) 0 other ∙ before units (omega arith)
    ]

-- the copies nearer than one unit more are not too many
pub next_fits : (width value units : ℕ) (copies : List ℕ) → AreKeptCopies width value copies
    → count_near (kept_copies width copies) value units + sum_by (slice_index copies) (ring value width units) ≤ ENTRIES_MOST
next_fits width value units copies kept =
    let more = near_more width value units copies in
    let few = near_le width value (units + 1) copies kept.number in
    let all = kept.in_all in
    omega arith

-- a table that is read as flips and a slice
pub kept_read : (width flipped value total : ℕ) (copies seen : List ℕ) (places : ℕ) → IsCountTable width total flipped copies → value < 2 ^ width
    → seen ≡ copies → places ≡ flipped → AreKeptCopies places value seen
kept_read width flipped value total copies seen places table in_width same_copies same_flips =
    let at : places ≡ width = same_flips ∙ table.flips in
    let P : ℕ → Type 0 = λ n. AreKeptCopies n value seen in
    let all = ap sum same_copies in
    let is = table.all in
    let few = table.few in
    subst P (sym at) (record { in_width = in_width; number = ap length same_copies ∙ table.each_value; in_all = omega arith })

pub table_read : (width flipped total : ℕ) (copies seen : List ℕ) (places : ℕ) → IsCountTable width total flipped copies
    → seen ≡ copies → places ≡ flipped → kept_copies places seen ≡ kept_copies width copies
table_read width flipped total copies seen places table same_copies same_flips =
    ap (λ n. kept_copies n seen) (same_flips ∙ table.flips) ∙ ap (kept_copies width) same_copies
