-- Walks over flips: what they begin with, and one step.
use Rattle.std.proofs.Common.{◌≡◌, ℕ, zero, suc, ◌+◌, ◌-◌, ◌^◌, ◌<◌, ◌≤◌, inl, inr, List, [], ◌∷◌, ◌++◌, length, map, take, drop, get_or, min, All, refl, sym, ◌∙◌, ap, subst, arith}
use Rattle.std.specs.Int.RustNames.{bit_xor}
use Rattle.std.specs.List.{flat_map, range_with_len}
use Rattle.std.proofs.lemmas.List.{append-nil, take_all, take-append-le, map-append, drop_more}
use Rattle.std.proofs.lemmas.List.Concat.{flat_map-append}
use Rattle.std.proofs.lemmas.List.Elements.{All-nil, All-append}
use Rattle.std.proofs.lemmas.Bool.{cases_lt}
use Rattle.ball_walk.specs.Flips.{flips, flipped_ring, flipped_ball}
use Rattle.ball_walk.specs.FlipTable.{flips_below, all_flips, flipped_from, IsFlipped}
use Rattle.hamming_model.specs.declared.limits.TheConstants.{PART_WIDTH_MOST}
use Rattle.ball_walk.proofs.BallLemmas.{range_append}
use Rattle.ball_walk.proofs.FlipLemmas.{flips_far, flips_parted, flips_between, starts_order, flipped_below}

-- the numbers with fewer ones come first
pub flips_first : (width apart : ℕ) → apart ≤ width + 1 → take (length (flips_below width apart)) (all_flips width) ≡ flips_below width apart
flips_first width apart inside =
    elim (cases_lt apart (width + 1)) [
      | inl less ↦
          let all : width + 1 ≡ apart + suc (width - apart) = omega arith in
          let later = flips width apart ++ flat_map (flips width) (range_with_len (apart + 1) (width - apart)) in
          ap (take (length (flips_below width apart))) (ap (flips_below width) all ∙ flips_parted width apart (width - apart))
          ∙ take-append-le (length (flips_below width apart)) (flips_below width apart) later (omega arith)
          ∙ take_all (length (flips_below width apart)) (flips_below width apart) (omega arith)
      | inr last ↦
          let same : apart ≡ width + 1 = omega arith in
          let P : ℕ → Type 0 = λ n. take (length (flips_below width n)) (all_flips width) ≡ flips_below width n in
          subst P (sym same) (take_all (length (all_flips width)) (all_flips width) (omega arith))
    ]

rings_mapped : (value width from n : ℕ)
    → map (bit_xor value) (flat_map (flips width) (range_with_len from n)) ≡ flat_map (flipped_ring value width) (range_with_len from n)
unfolding flipped_ring
rings_mapped value width from zero = refl
rings_mapped value width from (suc n) =
    map-append (bit_xor value) (flips width from) (flat_map (flips width) (range_with_len (from + 1) n))
    ∙ ap (λ l. map (bit_xor value) (flips width from) ++ l) (rings_mapped value width (from + 1) n)

-- what the numbers with fewer ones make of a value
below_mapped : (value width units : ℕ) → map (bit_xor value) (flips_below width units) ≡ flipped_ball value width units
unfolding flips_below flipped_ball
below_mapped value width units = rings_mapped value width 0 units

ring_none : (value width apart : ℕ) → width < apart → flipped_ring value width apart ≡ []
unfolding flipped_ring
ring_none value width apart far = ap (map (bit_xor value)) (flips_far width apart far)

rings_none : (value width from n : ℕ) → width < from → flat_map (flipped_ring value width) (range_with_len from n) ≡ []
rings_none value width from zero far = refl
rings_none value width from (suc n) far =
    ap (λ l. l ++ flat_map (flipped_ring value width) (range_with_len (from + 1) n)) (ring_none value width from far)
    ∙ rings_none value width (from + 1) n (omega arith)

-- a radius beyond the width gives no more values
flipped_cut : (value width units : ℕ) → flipped_ball value width (min units (width + 1)) ≡ flipped_ball value width units
unfolding flipped_ball
flipped_cut value width units =
    elim (cases_lt (width + 1) units) [
      | inl more ↦
          let cut : min units (width + 1) ≡ width + 1 = omega arith in
          let all : units ≡ width + 1 + (units - (width + 1)) = omega arith in
          let front = flat_map (flipped_ring value width) (range_with_len 0 (width + 1)) in
          ap (λ n. flat_map (flipped_ring value width) (range_with_len 0 n)) cut
          ∙ sym (ap (λ n. flat_map (flipped_ring value width) (range_with_len 0 n)) all
          ∙ ap (flat_map (flipped_ring value width)) (range_append 0 (width + 1) (units - (width + 1)))
          ∙ flat_map-append (flipped_ring value width) (range_with_len 0 (width + 1)) (range_with_len (0 + (width + 1)) (units - (width + 1)))
          ∙ ap (λ l. front ++ l) (rings_none value width (0 + (width + 1)) (units - (width + 1)) (omega arith))
          ∙ append-nil front)
      | inr few ↦
          let cut : min units (width + 1) ≡ units = omega arith in
          ap (λ n. flat_map (flipped_ring value width) (range_with_len 0 n)) cut
    ]

-- a walk that begins at the first number has the ball
pub ball_begun : (value width units apart start : ℕ) → apart ≡ min units (width + 1) → start ≡ length (flips_below width apart)
    → flipped_from value width 0 start ≡ flipped_ball value width units
ball_begun value width units apart start cut is =
    ap (λ n. map (bit_xor value) (take n (all_flips width))) is
    ∙ ap (map (bit_xor value)) (flips_first width apart (omega arith))
    ∙ below_mapped value width apart
    ∙ ap (flipped_ball value width) cut
    ∙ flipped_cut value width units

-- one that begins at the numbers with so many ones has the ring
pub ring_begun : (value width apart from to : ℕ) → take (to - from) (drop from (all_flips width)) ≡ flips width apart
    → flipped_from value width from (to - from) ≡ flipped_ring value width apart
unfolding flipped_ring
ring_begun value width apart from to is = ap (map (bit_xor value)) is

pub ring_past : (value width apart : ℕ) → width < apart → flipped_ball value width 0 ≡ flipped_ring value width apart
unfolding flipped_ball
ring_past value width apart far = sym (ring_none value width apart far)

-- and gives the first of them
pub step_first : (value width at left : ℕ) → 0 < left → at + left ≤ length (all_flips width)
    → flipped_from value width at left ≡ bit_xor value (get_or (all_flips width) at 0) ∷ flipped_from value width (at + 1) (left - 1)
step_first value width at left some within =
    let one : left ≡ suc (left - 1) = omega arith in
    ap (λ n. map (bit_xor value) (take n (drop at (all_flips width)))) one
    ∙ ap (λ l. map (bit_xor value) (take (suc (left - 1)) l)) (drop_more (all_flips width) at 0 (omega arith))

pub step_none : (value width at left : ℕ) → left ≡ 0 → flipped_from value width at left ≡ []
step_none value width at left none = ap (λ n. map (bit_xor value) (take n (drop at (all_flips width)))) none ∙ nothing (drop at (all_flips width))
  where
    nothing : (xs : List ℕ) → map (bit_xor value) (take 0 xs) ≡ []
    nothing [] = refl
    nothing (x ∷ xs) = refl

-- all values of such a ball are of the width
balls_below : (value width from n : ℕ) → value < 2 ^ width
    → All (λ other. other < 2 ^ width) (flat_map (flipped_ring value width) (range_with_len from n))
balls_below value width from zero in_width = All-nil (λ other. other < 2 ^ width)
balls_below value width from (suc n) in_width =
    All-append (λ other. other < 2 ^ width) (flipped_ring value width from) (flat_map (flipped_ring value width) (range_with_len (from + 1) n))
    (flipped_below value width from in_width) (balls_below value width (from + 1) n in_width)

pub flipped_ball_below : (value width units : ℕ) → value < 2 ^ width → All (λ other. other < 2 ^ width) (flipped_ball value width units)
unfolding flipped_ball
flipped_ball_below value width units in_width = balls_below value width 0 units in_width

-- a walk has begun with these values, and its numbers are in range
pub record Begins (value width at left : ℕ) (values : List ℕ) : Type 0 where
  pub in_range : IsFlipped value width at left
  pub values_are : flipped_from value width at left ≡ values
  pub below : All (λ other. other < 2 ^ width) (flipped_from value width at left)

start_within : (width apart : ℕ) → apart ≤ width + 1 → length (flips_below width apart) ≤ length (all_flips width)
start_within width apart inside =
    elim (cases_lt apart (width + 1)) [
      | inl less ↦ let order = starts_order width apart (omega arith) in omega (arith, order.0, order.1)
      | inr last ↦
          let same : apart ≡ width + 1 = omega arith in
          let long = ap (λ n. length (flips_below width n)) same in
          omega arith
    ]

module _ (value flipped : ℕ) (in_width : value < 2 ^ flipped) where
  -- with a ball
  pub begins_ball : (width units apart start : ℕ) → width ≡ flipped → width ≤ PART_WIDTH_MOST → apart ≡ min units (width + 1)
      → start ≡ length (flips_below flipped apart) → Begins value width 0 start (flipped_ball value flipped units)
  begins_ball width units apart start same small cut is =
      let P : ℕ → Type 0 = λ w. w ≤ PART_WIDTH_MOST → apart ≡ min units (w + 1) → Begins value w 0 start (flipped_ball value flipped units) in
      let Q : List ℕ → Type 0 = All (λ other. other < 2 ^ flipped) in
      subst P (sym same) (λ few at.
      let values = ball_begun value flipped units apart start at is in
      let within = start_within flipped apart (omega arith) in
      record {
        in_range = record { small = few; in_width = in_width; within = omega arith };
        values_are = values;
        below = subst Q (sym values) (flipped_ball_below value flipped units in_width);
      }) small cut

  -- and with a ring
  pub begins_ring : (width apart from to : ℕ) → width ≡ flipped → width ≤ PART_WIDTH_MOST → apart ≤ width
      → from ≡ length (flips_below flipped apart) → to ≡ length (flips_below flipped (apart + 1))
      → Begins value width from (to - from) (flipped_ring value flipped apart)
  begins_ring width apart from to same small near is_from is_to =
      let P : ℕ → Type 0 = λ w. w ≤ PART_WIDTH_MOST → apart ≤ w → Begins value w from (to - from) (flipped_ring value flipped apart) in
      let Q : List ℕ → Type 0 = All (λ other. other < 2 ^ flipped) in
      subst P (sym same) (λ few inside.
      let values = ring_begun value flipped apart from to (flips_between flipped apart from to inside is_from is_to) in
      let order = starts_order flipped apart inside in
      record {
        in_range = record { small = few; in_width = in_width; within = omega (arith, order.0, order.1) };
        values_are = values;
        below = subst Q (sym values) (flipped_below value flipped apart in_width);
      }) small near
