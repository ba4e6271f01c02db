-- A ball's lists: a ring read from one value on, the rings past the width, and sums over a ball.
use Rattle.std.proofs.Common.{◌≡◌, ◌≢◌, ℕ, zero, suc, ◌+◌, ◌-◌, ◌^◌, ◌<◌, ◌≤◌, ◌==◌, nat_lt, inl, inr, Bool, false, cond, List, [], ◌∷◌, ◌++◌, filter, sum_by, count_by, All, min, ◌&&◌, subst, refl, sym, ◌∙◌, ap, arith, eq-eqb, add-one}
use Rattle.std.specs.Int.RustNames.{bit_xor}
use Rattle.std.specs.List.{flat_map, range_with_len}
use Rattle.std.proofs.lemmas.Nat.{ones-le, xor_lt}
use Rattle.std.proofs.lemmas.List.{append-nil}
use Rattle.std.proofs.lemmas.List.Concat.{flat_map-append}
use Rattle.std.proofs.lemmas.List.Sums.{sum_by-append}
use Rattle.std.proofs.lemmas.List.Elements.{All-filter, All-nil, All-append}
use Rattle.std.proofs.lemmas.List.FromFn.{length-range_with_len, get_or-range_with_len}
use Rattle.std.proofs.lemmas.Bool.{ne_eqb, cases_lt}
use Rattle.ball_walk.specs.Balls.{value_distance, values, ring, ball, is_near, values_near}
use Rattle.ball_walk.specs.Walk.{ring_from, rest_of}
use Rattle.ball_walk.proofs.SumLemmas.{sum_near_more, sum_near_none, count_one, count_items}

-- a list that counts up, where one more number is left
pub range_more : (from top : ℕ) → from < top → range_with_len from (top - from) ≡ from ∷ range_with_len (from + 1) (top - (from + 1))
range_more from top h =
    let e : top - from ≡ suc (top - (from + 1)) = omega arith in
    ap (range_with_len from) e

-- a list that counts up, in two
pub range_append : (from m n : ℕ) → range_with_len from (m + n) ≡ range_with_len from m ++ range_with_len (from + m) n
range_append from zero n = let a : 0 + n ≡ n = omega arith in let b : from + 0 ≡ from = omega arith in rw (a, b) refl
range_append from (suc m) n =
    let a : suc m + n ≡ suc (m + n) = omega arith in
    let b : from + suc m ≡ from + 1 + m = omega arith in
    rw (a, b) (ap (λ l. from ∷ l) (range_append (from + 1) m n))

-- a ring from one of its values on begins with it
pub ring_from_here : (value width apart from : ℕ) → from < 2 ^ width → value_distance from value ≡ apart
    → ring_from value width apart from ≡ from ∷ ring_from value width apart (from + 1)
unfolding ring_from
ring_from_here value width apart from h e =
    rw (range_more from (2 ^ width) h, eq-eqb (value_distance from value) apart e) refl

-- a ring from a value that isn't its own on is the ring from the next on
pub ring_from_next : (value width apart from : ℕ) → from < 2 ^ width → value_distance from value ≢ apart
    → ring_from value width apart from ≡ ring_from value width apart (from + 1)
unfolding ring_from
ring_from_next value width apart from h e = rw (range_more from (2 ^ width) h, ne_eqb (value_distance from value) apart e) refl

-- past the last value nothing is left
pub ring_from_end : (value width apart from : ℕ) → 2 ^ width ≤ from → ring_from value width apart from ≡ []
unfolding ring_from
ring_from_end value width apart from h = let e : 2 ^ width - from ≡ 0 = omega arith in rw e refl

-- a ring is read from 0 on
pub ring_from_start : (value width apart : ℕ) → ring_from value width apart 0 ≡ ring value width apart
unfolding ring_from ring values
ring_from_start value width apart = let e : 2 ^ width - 0 ≡ 2 ^ width = omega arith in rw e refl

-- a walk that begins has the whole ball to give
pub rest_of_ball : (value width units : ℕ) → rest_of value width 0 0 units ≡ ball value width units
unfolding ball
rest_of_ball value width zero = refl
rest_of_ball value width (suc units) = rw ring_from_start refl

-- a walk at the start of a ring has that ring and those after it to give
rest_of_rings : (value width apart left : ℕ) → rest_of value width apart 0 left ≡ flat_map (ring value width) (range_with_len apart left)
rest_of_rings value width apart zero = refl
rest_of_rings value width apart (suc left) = rw ring_from_start refl

-- a walk whose ring is at its end goes on with the next
pub rest_of_next : (value width apart from left : ℕ) → 0 < left → ring_from value width apart from ≡ []
    → rest_of value width apart from left ≡ rest_of value width (apart + 1) 0 (left - 1)
rest_of_next value width apart from zero some none = absurd (omega arith)
rest_of_next value width apart from (suc left) some none =
    let e : suc left - 1 ≡ left = omega arith in
    rw (e, none) (sym (rest_of_rings value width (apart + 1) left))

-- a walk gives the first value of its ring
pub rest_of_first : (value width apart from left first : ℕ) → 0 < left
    → ring_from value width apart from ≡ first ∷ ring_from value width apart (first + 1)
    → rest_of value width apart from left ≡ first ∷ rest_of value width apart (first + 1) left
rest_of_first value width apart from zero first some e = absurd (omega arith)
rest_of_first value width apart from (suc left) first some e = rw e refl

-- two values of a width are at most the width apart
pub distance_le : (width a b : ℕ) → a < 2 ^ width → b < 2 ^ width → value_distance a b ≤ width
unfolding value_distance
distance_le width a b below above = ones-le width (bit_xor a b) (xor_lt width a b below above)

-- a filter keeps nothing of a list that counts up, where no number of it passes
pub filter_none : (test : ℕ → Bool) (from n top : ℕ) → from + n ≤ top → ((x : ℕ) → x < top → test x ≡ false) → filter test (range_with_len from n) ≡ []
filter_none test from zero top h e = refl
filter_none test from (suc n) top h e =
    rw (e from (omega arith)) (filter_none test (from + 1) n top (omega arith) e)

-- no value is further apart than the width
pub ring_far : (value width apart : ℕ) → value < 2 ^ width → width < apart → ring value width apart ≡ []
unfolding ring values
ring_far value width apart in_width far =
    filter_none (λ other. value_distance other value == apart) 0 (2 ^ width) (2 ^ width) (omega arith)
    (λ x below. let near = distance_le width x value below in_width in
    ne_eqb (value_distance x value) apart (λ (e : value_distance x value ≡ apart). omega arith))

rings_far : (value width from n : ℕ) → value < 2 ^ width → width < from → flat_map (ring value width) (range_with_len from n) ≡ []
rings_far value width from zero in_width far = refl
rings_far value width from (suc n) in_width far =
    rw (ring_far value width from in_width far) (rings_far value width (from + 1) n in_width (omega arith))

-- a radius beyond the width gives no more values
pub ball_cut : (value width units : ℕ) → value < 2 ^ width → ball value width (min units (width + 1)) ≡ ball value width units
unfolding ball
ball_cut value width units in_width =
    elim (cases_lt (width + 1) units) [
      | inl more ↦
          let cut : min units (width + 1) ≡ width + 1 = omega arith in
          let all : units ≡ width + 1 + (units - (width + 1)) = omega arith in
          let far = rings_far value width (0 + (width + 1)) (units - (width + 1)) in_width (omega arith) in
          rw cut (sym (ap (λ n. flat_map (ring value width) (range_with_len 0 n)) all
          ∙ ap (flat_map (ring value width)) (range_append 0 (width + 1) (units - (width + 1)))
          ∙ flat_map-append (ring value width) (range_with_len 0 (width + 1)) (range_with_len (0 + (width + 1)) (units - (width + 1)))
          ∙ ap (λ l. flat_map (ring value width) (range_with_len 0 (width + 1)) ++ l) far
          ∙ append-nil (flat_map (ring value width) (range_with_len 0 (width + 1)))))
      | inr few ↦ let cut : min units (width + 1) ≡ units = omega arith in rw cut refl
    ]

-- a ball of one distance more has that ring at its end
pub ball_more : (value width units : ℕ) → ball value width (units + 1) ≡ ball value width units ++ ring value width units
unfolding ball
ball_more value width units =
    ap (flat_map (ring value width)) (range_append 0 units 1)
    ∙ flat_map-append (ring value width) (range_with_len 0 units) (range_with_len (0 + units) 1)
    ∙ (let a : 0 + units ≡ units = omega arith in
    let one = append-nil (ring value width units) in
    rw (a, one) refl)

near_count : (value width units other : ℕ)
    → count_by (λ x. x == other) (values_near value width units) ≡ cond (nat_lt other (2 ^ width) && is_near value units other) 1 0
unfolding values_near values
near_count value width units other = count_one (is_near value units) (2 ^ width) other

near_items : (items : List ℕ) (value width units : ℕ) → All (λ item. item < 2 ^ width) items
    → sum_by (λ other. count_by (λ item. item == other) items) (values_near value width units) ≡ count_by (is_near value units) items
unfolding values_near values
near_items items value width units below = count_items (is_near value units) (2 ^ width) items below

ball_sum_more : (f : ℕ → ℕ) (value width units : ℕ) → sum_by f (ball value width units) ≡ sum_by f (values_near value width units)
    → sum_by f (ball value width (units + 1)) ≡ sum_by f (values_near value width (units + 1))
unfolding values_near is_near ring
ball_sum_more f value width units before =
    ap (sum_by f) (ball_more value width units)
    ∙ sum_by-append f (ball value width units) (ring value width units)
    ∙ ap (λ n. n + sum_by f (ring value width units)) before
    ∙ sym (sum_near_more f (λ other. value_distance other value) units (values width))

ball_sum_none : (f : ℕ → ℕ) (value width : ℕ) → sum_by f (ball value width 0) ≡ sum_by f (values_near value width 0)
unfolding ball values_near is_near
ball_sum_none f value width = sym (sum_near_none f (λ other. value_distance other value) (values width))

-- a sum over a ball is a sum over the values that are near
pub ball_sum : (f : ℕ → ℕ) (value width units : ℕ) → sum_by f (ball value width units) ≡ sum_by f (values_near value width units)
ball_sum f value width zero = ball_sum_none f value width
ball_sum f value width (suc units) =
    let step = ball_sum_more f value width units (ball_sum f value width units) in
    let P : ℕ → Type 0 = λ n. sum_by f (ball value width n) ≡ sum_by f (values_near value width n) in
    subst P (add-one units) step

-- a number stands once in a ball where it is a value that is near, and else not
pub ball_count : (value width units other : ℕ)
    → count_by (λ x. x == other) (ball value width units) ≡ cond (nat_lt other (2 ^ width) && is_near value units other) 1 0
ball_count value width units other =
    ball_sum (λ x. cond (x == other) 1 0) value width units ∙ near_count value width units other

-- items that have the values of a ball are the items that are near
pub ball_items : (items : List ℕ) (value width units : ℕ) → All (λ item. item < 2 ^ width) items
    → sum_by (λ other. count_by (λ item. item == other) items) (ball value width units) ≡ count_by (is_near value units) items
ball_items items value width units below =
    ball_sum (λ other. count_by (λ item. item == other) items) value width units ∙ near_items items value width units below

-- the numbers of a list that counts up are below its end
pub range_below : (from n top : ℕ) → from + n ≤ top → All (λ x. x < top) (range_with_len from n)
range_below from n top h k d in_range =
    let short : k < n = (let e = length-range_with_len from n in omega arith) in
    let at = get_or-range_with_len from n k d short in
    omega arith

-- the values of a width that are near are below the bound of the width
pub near_below : (value width units : ℕ) → All (λ other. other < 2 ^ width) (values_near value width units)
unfolding values_near values
near_below value width units =
    All-filter (is_near value units) (λ other. other < 2 ^ width) (range_with_len 0 (2 ^ width)) (range_below 0 (2 ^ width) (2 ^ width) (omega arith))

pub ring_below : (value width apart : ℕ) → All (λ other. other < 2 ^ width) (ring value width apart)
unfolding ring values
ring_below value width apart =
    All-filter (λ other. value_distance other value == apart) (λ other. other < 2 ^ width) (range_with_len 0 (2 ^ width))
    (range_below 0 (2 ^ width) (2 ^ width) (omega arith))

rings_below : (value width from units : ℕ) → All (λ other. other < 2 ^ width) (flat_map (ring value width) (range_with_len from units))
rings_below value width from zero = All-nil (λ other. other < 2 ^ width)
rings_below value width from (suc units) =
    All-append (λ other. other < 2 ^ width) (ring value width from) (flat_map (ring value width) (range_with_len (from + 1) units))
    (ring_below value width from) (rings_below value width (from + 1) units)

-- the values of a ball are below the bound of its width
pub ball_below : (value width units : ℕ) → All (λ other. other < 2 ^ width) (ball value width units)
unfolding ball
ball_below value width units = rings_below value width 0 units
