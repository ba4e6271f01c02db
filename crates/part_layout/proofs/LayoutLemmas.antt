-- What a layout says of its parts, and how many positions it has.
use Rattle.std.proofs.Common.{◌≡◌, ℕ, zero, suc, ◌+◌, ◌*◌, ◌<◌, ◌≤◌, ◌==◌, cond, inl, inr, List, [], ◌∷◌, All, length, count_by, get_or, slice_index, refl, sym, ◌∙◌, ap, arith, take}
use Rattle.std.specs.List.{flat_map}
use Rattle.std.specs.Int.Digits.{number_from_digits}
use Rattle.std.proofs.lemmas.Bool.{cases_eq, ne_eqb, eq-eqb}
use Rattle.std.proofs.lemmas.Int.Digits.{number_push}
use Rattle.std.proofs.lemmas.List.{get_or-map, length-map, map-append, take_more}
use Rattle.std.proofs.lemmas.List.Concat.{get_or-flat_map}
use Rattle.std.proofs.lemmas.List.Elements.{All-head, All-tail}
use Rattle.std.proofs.lemmas.List.Folds.{length-flat_map-take}
use Rattle.std.proofs.lemmas.List.Sums.{sum_by-cons}
use Rattle.hamming_model.specs.Layouts.{IsLayout, bits_at, part_value}
use Rattle.hamming_model.specs.declared.limits.TheConstants.{PART_WIDTH_MOST}
use Rattle.part_layout.specs.Kept.{FitsText, laid_of, lists_of}
use Rattle.part_layout.specs.Laid.{IsLaid, Laid, part_at}
use Rattle.part_layout.proofs.RunLemmas.{hit, miss}
use Rattle.std.specs.Global.{Vec}

-- a part's positions are among all positions
pub part_inside : (bits : ℕ) (parts : List (List ℕ)) (i j d : ℕ) → i < length parts → j < length (get_or parts i [])
    → All (λ position. position < bits) (flat_map (λ part. part) parts) → get_or (get_or parts i []) j d < bits
part_inside bits parts i j d inside short below =
    let room = length-flat_map-take (λ (part : List ℕ). part) parts i [] inside in
    let same = get_or-flat_map (λ (part : List ℕ). part) parts i j [] d inside short in
    let place : length (flat_map (λ part. part) (take i parts)) + j < length (flat_map (λ part. part) parts) = omega arith in
    let here = below (length (flat_map (λ part. part) (take i parts)) + j) d place in
    rw same at here

-- every position of a part is one of a code
pub part_below : (bits : ℕ) (parts : List (List ℕ)) (i : ℕ) → i < length parts → IsLayout bits parts → All (λ position. position < bits) (get_or parts i [])
part_below bits parts i inside laid = λ j d short. part_inside bits parts i j d inside short laid.in_range

-- how often the numbers below a bound stand in a list, added up
pub tally : ℕ → List ℕ → ℕ
tally zero xs = 0
tally (suc n) xs = count_by (λ other. other == n) xs + tally n xs

tally_nil : (n : ℕ) → tally n [] ≡ 0
unfolding tally
tally_nil zero = refl
tally_nil (suc n) = let rest = tally_nil n in omega arith

tally_over : (n x : ℕ) (xs : List ℕ) → n ≤ x → tally n (x ∷ xs) ≡ tally n xs
unfolding tally
tally_over zero x xs over = refl
tally_over (suc n) x xs over =
    let here = sum_by-cons (λ other. cond (other == n) 1 0) x xs in
    let differs = ne_eqb x n (λ (e : x ≡ n). omega arith) in
    let none : count_by (λ other. other == n) (x ∷ xs) ≡ count_by (λ other. other == n) xs =
    here ∙ miss (count_by (λ other. other == n) xs) (x == n) differs in
    let rest = tally_over n x xs (omega arith) in
    omega arith

tally_cons : (n x : ℕ) (xs : List ℕ) → x < n → tally n (x ∷ xs) ≡ suc (tally n xs)
unfolding tally
tally_cons zero x xs below = absurd (omega arith)
tally_cons (suc n) x xs below =
    let here = sum_by-cons (λ other. cond (other == n) 1 0) x xs in
    elim (cases_eq x n) [
      | inl same ↦
          let equal = eq-eqb x n same in
          let one : count_by (λ other. other == n) (x ∷ xs) ≡ suc (count_by (λ other. other == n) xs) =
          here ∙ hit (count_by (λ other. other == n) xs) (x == n) equal in
          let rest = tally_over n x xs (omega arith) in
          omega arith
      | inr other ↦
          let differs = ne_eqb x n other in
          let none : count_by (λ other. other == n) (x ∷ xs) ≡ count_by (λ other. other == n) xs =
          here ∙ miss (count_by (λ other. other == n) xs) (x == n) differs in
          let rest = tally_cons n x xs (omega arith) in
          omega arith
    ]

pub tally_all : (n : ℕ) (xs : List ℕ) → All (λ x. x < n) xs → tally n xs ≡ length xs
tally_all n [] below = tally_nil n
tally_all n (x ∷ xs) below =
    let first = All-head (λ y. y < n) x xs below in
    let others = tally_all n xs (All-tail (λ y. y < n) x xs below) in
    let here = tally_cons n x xs first in
    omega arith

pub tally_ones : (n : ℕ) (xs : List ℕ) → ((x : ℕ) → x < n → count_by (λ other. other == x) xs ≡ 1) → tally n xs ≡ n
unfolding tally
tally_ones zero xs once = refl
tally_ones (suc n) xs once =
    let here = once n (omega arith) in
    let rest = tally_ones n xs (λ x below. once x (omega arith)) in
    omega arith

-- a layout has as many positions as the code has bits
pub all_positions : (bits : ℕ) (parts : List (List ℕ)) → IsLayout bits parts → length (flat_map (λ part. part) parts) ≡ bits
all_positions bits parts laid =
    sym (tally_all bits (flat_map (λ part. part) parts) laid.in_range) ∙ tally_ones bits (flat_map (λ part. part) parts) laid.once

-- a buffer of 2,048 bytes has room for the text of a layout
pub layout_fits : (bits bytes : ℕ) (parts : List (List ℕ)) → bits ≤ 256 → 2048 ≤ bytes → IsLayout bits parts → FitsText bytes parts
layout_fits bits bytes parts few long laid =
    let all = all_positions bits parts laid in
    record {
      some = λ k d inside. (laid.widths k d inside).0;
      short = λ k d inside j e within. part_short bits parts k j d e inside within few laid;
      room = omega arith;
    }
  where
    part_short : (bits : ℕ) (parts : List (List ℕ)) (k j : ℕ) (d : List ℕ) (e : ℕ) → k < length parts → j < length (get_or parts k d) → bits ≤ 256
        → IsLayout bits parts → get_or (get_or parts k d) j e < 1000
    part_short bits parts k j d e inside within few laid =
        let room = length-flat_map-take (λ (part : List ℕ). part) parts k d inside in
        let same = get_or-flat_map (λ (part : List ℕ). part) parts k j d e inside within in
        let place : length (flat_map (λ part. part) (take k parts)) + j < length (flat_map (λ part. part) parts) = omega arith in
        let here = laid.in_range (length (flat_map (λ part. part) (take k parts)) + j) e place in
        let below : get_or (get_or parts k d) j e < bits = rw same at here in
        omega arith

-- one position more
pub value_step : (code part : List ℕ) (i value bit : ℕ) → i < length part → value ≡ part_value code (take i part) → bit ≡ slice_index code (get_or part i 0)
    → 2 * value + bit ≡ part_value code (take (i + 1) part)
value_step code part i value bit inside so_far is_bit =
    let cut = ap (λ xs. part_value code xs) (take_more part i 0 inside) in
    let mapped = ap (λ xs. number_from_digits 2 xs) (map-append (λ position. slice_index code position) (take i part) (get_or part i 0 ∷ [])) in
    let pushed = number_push 2 (bits_at code (take i part)) (slice_index code (get_or part i 0)) in
    omega arith

-- a part as it is kept
pub own_part : (parts : List (Vec ℕ)) (i : ℕ) (own : Vec ℕ) → i < length parts → own ≡ get_or parts i own → own.items ≡ get_or (lists_of parts) i []
own_part parts i own inside is =
    ap (λ (part : Vec ℕ). part.items) is ∙ sym (get_or-map (λ (part : Vec ℕ). part.items) parts i own [] inside)

-- a part as callers see it
pub kept_at : (bits : ℕ) (parts : List (Vec ℕ)) (laid : Laid) (part : ℕ) (own : Vec ℕ) → laid_of bits parts ≡ laid → part < length laid.parts
    → own ≡ get_or parts part own → part_at laid part ≡ own.items
kept_at bits parts laid part own seen below is =
    let same : lists_of parts ≡ laid.parts = ap (λ (l : Laid). l.parts) seen in
    let sized = length-map parts (λ (kept : Vec ℕ). kept.items) in
    let long = ap length same in
    let inside : part < length parts = omega arith in
    sym (ap (λ (l : Laid). part_at l part) seen) ∙ sym (own_part parts part own inside is)

-- its positions, as they are read
pub shown_part : (bits : ℕ) (parts : List (Vec ℕ)) (laid : Laid) (part : ℕ) (own : Vec ℕ) (positions : List ℕ) → laid_of bits parts ≡ laid
    → part < length laid.parts → own ≡ get_or parts part own → positions ≡ own.items → positions ≡ part_at laid part
shown_part bits parts laid part own positions seen below is read = read ∙ sym (kept_at bits parts laid part own seen below is)

-- the width of a part, as it is read
pub width_of_part : (bits : ℕ) (parts : List (Vec ℕ)) (laid : Laid) (part number : ℕ) (own : Vec ℕ) → laid_of bits parts ≡ laid → IsLaid laid
    → part < length laid.parts → own ≡ get_or parts part own → number ≡ length own.items
    → (0 < number) × (number ≤ PART_WIDTH_MOST)
width_of_part bits parts laid part number own seen is below same long =
    let each = is.layout.widths part [] below in
    let sized = ap length (kept_at bits parts laid part own seen below same) in
    (omega (arith, each.0), omega (arith, each.1))
