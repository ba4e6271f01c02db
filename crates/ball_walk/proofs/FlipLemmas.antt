-- The numbers of a width by how many ones they have: how a table of them lies, and what it makes of a value.
use Rattle.std.proofs.Common.{◌≡◌, ◌≢◌, ℕ, zero, suc, ◌+◌, ◌-◌, ◌*◌, ◌^◌, ◌<◌, ◌≤◌, ◌==◌, inl, inr, Bool, cond, List, [], ◌∷◌, ◌++◌, length, map, take, drop, filter, sum_by, get_or, All, refl, sym, ◌∙◌, ap, subst, arith}
use Rattle.std.specs.Int.RustNames.{count_ones, bit_xor}
use Rattle.std.specs.Int.Bits.{xor_self, xor_zero_r}
use lib.Bits.{xor_assoc}
use Rattle.std.specs.List.{flat_map, range_with_len}
use Rattle.std.proofs.lemmas.Nat.{ones-le, xor_lt, xor_comm, xor_block}
use Rattle.std.proofs.lemmas.List.{append-nil, append_assoc, take_all, drop_all, take-append-le, drop-append-le, get_or_append_left, get_or-append_right, length-append}
use Rattle.std.proofs.lemmas.List.Concat.{flat_map-append}
use Rattle.std.proofs.lemmas.List.Sums.{sum_by-cons, sum_by-append}
use Rattle.std.proofs.lemmas.List.Elements.{All-filter, All-map, filter-append}
use Rattle.std.proofs.lemmas.Bool.{ne_eqb, eq-eqb, cases_lt}
use Rattle.ball_walk.specs.Balls.{value_distance, values, ring, ball}
use Rattle.ball_walk.specs.Flips.{flips, flipped_ring, flipped_ball}
use Rattle.ball_walk.specs.FlipTable.{flips_below, AreStarts, IsFlipTable}
use Rattle.ball_walk.proofs.BallLemmas.{range_append, range_below, filter_none}
use Rattle.ball_walk.proofs.SumLemmas.{sum_same, sum_filter}

-- ---- how a table lies

filter_of_range_more : (test : ℕ → Bool) (n : ℕ)
    → filter test (range_with_len 0 (n + 1)) ≡ filter test (range_with_len 0 n) ++ cond (test n) (n ∷ []) []
filter_of_range_more test n =
    ap (filter test) (range_append 0 n 1)
    ∙ filter-append test (range_with_len 0 n) (range_with_len (0 + n) 1)
    ∙ (let at : 0 + n ≡ n = omega arith in rw at refl)

-- no number of a width has more ones than the width
pub flips_far : (width apart : ℕ) → width < apart → flips width apart ≡ []
unfolding flips values
flips_far width apart far =
    filter_none (λ flip. count_ones flip == apart) 0 (2 ^ width) (2 ^ width) (omega arith)
    (λ x below. let few = ones-le width x below in
    ne_eqb (count_ones x) apart (λ (e : count_ones x ≡ apart). omega arith))

pub flips_in_width : (width apart : ℕ) → All (λ flip. flip < 2 ^ width) (flips width apart)
unfolding flips values
flips_in_width width apart =
    All-filter (λ flip. count_ones flip == apart) (λ flip. flip < 2 ^ width) (range_with_len 0 (2 ^ width))
    (range_below 0 (2 ^ width) (2 ^ width) (omega arith))

pub flips_none : (width : ℕ) → flips_below width 0 ≡ []
unfolding flips_below
flips_none width = refl

-- those with one more come after those with fewer
pub flips_more : (width apart : ℕ) → flips_below width (apart + 1) ≡ flips_below width apart ++ flips width apart
unfolding flips_below
flips_more width apart =
    ap (flat_map (flips width)) (range_append 0 apart 1)
    ∙ flat_map-append (flips width) (range_with_len 0 apart) (range_with_len (0 + apart) 1)
    ∙ (let at : 0 + apart ≡ apart = omega arith in
    let one = append-nil (flips width apart) in
    rw (at, one) refl)

pub flips_parted : (width apart more : ℕ)
    → flips_below width (apart + suc more) ≡ flips_below width apart ++ (flips width apart ++ flat_map (flips width) (range_with_len (apart + 1) more))
unfolding flips_below
flips_parted width apart more =
    ap (flat_map (flips width)) (range_append 0 apart (suc more))
    ∙ flat_map-append (flips width) (range_with_len 0 apart) (range_with_len (0 + apart) (suc more))
    ∙ (let at : 0 + apart ≡ apart = omega arith in rw at refl)

middle : (front within back : List ℕ) (from to : ℕ) → from ≡ length front → to ≡ length front + length within
    → take (to - from) (drop from (front ++ (within ++ back))) ≡ within
middle front within back from to is_from is_to =
    let size : to - from ≡ length within = omega arith in
    ap (λ n. take n (drop from (front ++ (within ++ back)))) size
    ∙ ap (take (length within))
    (drop-append-le from front (within ++ back) (omega arith)
    ∙ ap (λ l. l ++ (within ++ back)) (drop_all from front (omega arith)))
    ∙ take-append-le (length within) within back (omega arith)
    ∙ take_all (length within) within (omega arith)

-- the numbers between two starts are those with so many ones
pub flips_between : (width apart from to : ℕ) → apart ≤ width → from ≡ length (flips_below width apart)
    → to ≡ length (flips_below width (apart + 1)) → take (to - from) (drop from (flips_below width (width + 1))) ≡ flips width apart
flips_between width apart from to inside is_from is_to =
    let all : width + 1 ≡ apart + suc (width - apart) = omega arith in
    let more : length (flips_below width (apart + 1)) ≡ length (flips_below width apart) + length (flips width apart) =
    ap length (flips_more width apart) ∙ length-append (flips_below width apart) (flips width apart) in
    ap (λ l. take (to - from) (drop from l)) (ap (flips_below width) all ∙ flips_parted width apart (width - apart))
    ∙ middle (flips_below width apart) (flips width apart) (flat_map (flips width) (range_with_len (apart + 1) (width - apart))) from to
    is_from (is_to ∙ more)

-- and each start is within the table
pub starts_order : (width apart : ℕ) → apart ≤ width
    → (length (flips_below width apart) ≤ length (flips_below width (apart + 1)))
    × (length (flips_below width (apart + 1)) ≤ length (flips_below width (width + 1)))
starts_order width apart inside =
    let all : width + 1 ≡ apart + suc (width - apart) = omega arith in
    let rest = flat_map (flips width) (range_with_len (apart + 1) (width - apart)) in
    let more : length (flips_below width (apart + 1)) ≡ length (flips_below width apart) + length (flips width apart) =
    ap length (flips_more width apart) ∙ length-append (flips_below width apart) (flips width apart) in
    let whole : length (flips_below width (width + 1)) ≡ length (flips_below width apart) + length (flips width apart ++ rest) =
    ap length (ap (flips_below width) all ∙ flips_parted width apart (width - apart))
    ∙ length-append (flips_below width apart) (flips width apart ++ rest) in
    let back = length-append (flips width apart) rest in
    (omega arith, omega arith)

-- a table that is read as two slices
pub table_read : (width : ℕ) (numbers starts seen places : List ℕ) → IsFlipTable width numbers starts → seen ≡ numbers → places ≡ starts
    → IsFlipTable width seen places
table_read width numbers starts seen places table same_numbers same_starts = record {
  small = table.small;
  all = same_numbers ∙ table.all;
  starts_at = subst (AreStarts width (width + 2)) (sym same_starts) table.starts_at;
}

-- the numbers between the starts that a table has
pub table_between : (width apart : ℕ) (numbers starts : List ℕ) → IsFlipTable width numbers starts → apart ≤ width
    → take (get_or starts (apart + 1) 0 - get_or starts apart 0) (drop (get_or starts apart 0) numbers) ≡ flips width apart
table_between width apart numbers starts table inside =
    let from = table.starts_at.each apart (omega arith) in
    let to = table.starts_at.each (apart + 1) (omega arith) in
    ap (λ l. take (get_or starts (apart + 1) 0 - get_or starts apart 0) (drop (get_or starts apart 0) l)) table.all
    ∙ flips_between width apart (get_or starts apart 0) (get_or starts (apart + 1) 0) inside from to

-- and they are in order, and within the table
pub table_order : (width apart : ℕ) (numbers starts : List ℕ) → IsFlipTable width numbers starts → apart ≤ width
    → (get_or starts apart 0 ≤ get_or starts (apart + 1) 0) × (get_or starts (apart + 1) 0 ≤ length numbers)
table_order width apart numbers starts table inside =
    let from = table.starts_at.each apart (omega arith) in
    let to = table.starts_at.each (apart + 1) (omega arith) in
    let order = starts_order width apart inside in
    let long = ap length table.all in
    (omega arith, omega arith)

-- before the first number of ones there is no start
pub starts_none : (width : ℕ) (starts : List ℕ) → starts ≡ [] → AreStarts width 0 starts
starts_none width starts none = record {
  number = ap length none;
  each = λ apart below. absurd (omega arith);
}

-- one start more
pub starts_more : (width count at : ℕ) (starts : List ℕ) → AreStarts width count starts → at ≡ length (flips_below width count)
    → AreStarts width (count + 1) (starts ++ at ∷ [])
starts_more width count at starts before is = record {
  number = length-append starts (at ∷ []) ∙ ap (λ n. n + 1) before.number;
  each = λ apart below. elim (cases_lt apart count) [
    | inl less ↦
        let inside : apart < length starts = (let long = before.number in omega arith) in
        get_or_append_left starts (at ∷ []) 0 apart inside ∙ before.each apart less
    | inr last ↦
        let same : apart ≡ count = omega arith in
        let none : apart - count ≡ 0 = omega arith in
        get_or-append_right starts (at ∷ []) count apart 0 before.number last
        ∙ ap (λ n. get_or (at ∷ []) n 0) none
        ∙ is ∙ ap (λ n. length (flips_below width n)) (sym same)
  ];
}

-- the same, where another list is said to be the longer one
pub starts_kept : (width count at : ℕ) (starts more : List ℕ) → AreStarts width count starts → at ≡ length (flips_below width count)
    → more ≡ starts ++ at ∷ [] → AreStarts width (count + 1) more
starts_kept width count at starts more before is e =
    subst (AreStarts width (count + 1)) (sym e) (starts_more width count at starts before is)

-- one number more, where it has so many ones and where it hasn't
pub flips_pushed : (front : List ℕ) (ones number : ℕ) → count_ones number ≡ ones
    → (front ++ filter (λ flip. count_ones flip == ones) (range_with_len 0 number)) ++ number ∷ []
    ≡ front ++ filter (λ flip. count_ones flip == ones) (range_with_len 0 (number + 1))
flips_pushed front ones number has =
    append_assoc front (filter (λ flip. count_ones flip == ones) (range_with_len 0 number)) (number ∷ [])
    ∙ ap (λ l. front ++ l)
    (sym (filter_of_range_more (λ flip. count_ones flip == ones) number
    ∙ (rw (eq-eqb (count_ones number) ones has) refl)))

pub flips_passed : (front : List ℕ) (ones number : ℕ) → count_ones number ≢ ones
    → front ++ filter (λ flip. count_ones flip == ones) (range_with_len 0 number)
    ≡ front ++ filter (λ flip. count_ones flip == ones) (range_with_len 0 (number + 1))
flips_passed front ones number other =
    ap (λ l. front ++ l)
    (sym (filter_of_range_more (λ flip. count_ones flip == ones) number
    ∙ (rw (ne_eqb (count_ones number) ones other)
    (append-nil (filter (λ flip. count_ones flip == ones) (range_with_len 0 number))))))

-- ---- what the numbers make of a value

-- two flips by one value are none
xor_back : (value other : ℕ) → bit_xor (bit_xor value other) value ≡ other
xor_back value other =
    ap (λ n. bit_xor n value) (xor_comm value other) ∙ xor_assoc other value value ∙ ap (bit_xor other) (xor_self value) ∙ xor_zero_r other

-- sums over lists that count up agree where the functions do
sum_below : (f g : ℕ → ℕ) (from n top : ℕ) → from + n ≤ top → ((x : ℕ) → x < top → f x ≡ g x)
    → sum_by f (range_with_len from n) ≡ sum_by g (range_with_len from n)
sum_below f g from zero top fits e = refl
sum_below f g from (suc n) top fits e =
    let here = sum_by-cons f from (range_with_len (from + 1) n) in
    let there = sum_by-cons g from (range_with_len (from + 1) n) in
    let at = e from (omega arith) in
    let rest = sum_below f g (from + 1) n top (omega arith) e in
    omega arith

-- a list that counts up from further on
sum_moved : (f : ℕ → ℕ) (by from n : ℕ) → sum_by f (range_with_len (by + from) n) ≡ sum_by (λ x. f (by + x)) (range_with_len from n)
sum_moved f by from zero = refl
sum_moved f by from (suc n) =
    let here = sum_by-cons f (by + from) (range_with_len (by + from + 1) n) in
    let there = sum_by-cons (λ x. f (by + x)) from (range_with_len (from + 1) n) in
    let next : by + from + 1 ≡ by + (from + 1) = omega arith in
    let moved = ap (λ m. sum_by f (range_with_len m n)) next in
    let rest = sum_moved f by (from + 1) n in
    omega arith

-- a sum over twice as many numbers is one over the lower half and one over the upper
sum_halves : (f : ℕ → ℕ) (half : ℕ)
    → sum_by f (range_with_len 0 (half + half)) ≡ sum_by f (range_with_len 0 half) + sum_by (λ x. f (half + x)) (range_with_len 0 half)
sum_halves f half =
    let parted = ap (sum_by f) (range_append 0 half half) in
    let both = sum_by-append f (range_with_len 0 half) (range_with_len (0 + half) half) in
    let at : 0 + half ≡ half + 0 = omega arith in
    let moved = ap (λ m. sum_by f (range_with_len m half)) at in
    let upper = sum_moved f half 0 half in
    omega arith

-- the upper halves of two numbers are equal or not
low_low : (width a b : ℕ) → a < 2 ^ width → b < 2 ^ width → bit_xor a (2 ^ width + b) ≡ 2 ^ width + bit_xor a b
low_low width a b below above =
    let one : 2 ^ width + b ≡ 1 * 2 ^ width + b = omega arith in
    let none : a ≡ 0 * 2 ^ width + a = omega arith in
    let both : 1 * 2 ^ width + bit_xor a b ≡ 2 ^ width + bit_xor a b = omega arith in
    ap (λ n. bit_xor a n) one ∙ ap (λ n. bit_xor n (1 * 2 ^ width + b)) none ∙ xor_block width 0 1 a b below above ∙ both

high_low : (width a b : ℕ) → a < 2 ^ width → b < 2 ^ width → bit_xor (2 ^ width + a) b ≡ 2 ^ width + bit_xor a b
high_low width a b below above =
    xor_comm (2 ^ width + a) b ∙ low_low width b a above below ∙ ap (λ n. 2 ^ width + n) (xor_comm b a)

high_high : (width a b : ℕ) → a < 2 ^ width → b < 2 ^ width → bit_xor (2 ^ width + a) (2 ^ width + b) ≡ bit_xor a b
high_high width a b below above =
    let one : 2 ^ width + b ≡ 1 * 2 ^ width + b = omega arith in
    let other : 2 ^ width + a ≡ 1 * 2 ^ width + a = omega arith in
    let none : 0 * 2 ^ width + bit_xor a b ≡ bit_xor a b = omega arith in
    ap (λ n. bit_xor (2 ^ width + a) n) one ∙ ap (λ n. bit_xor n (1 * 2 ^ width + b)) other
    ∙ xor_block width 1 1 a b below above ∙ ap (λ n. n * 2 ^ width + bit_xor a b) (xor_self 1) ∙ none

one_number : (f : ℕ → ℕ) (value : ℕ) → value < 1 → sum_by (λ x. f (bit_xor value x)) (range_with_len 0 1) ≡ sum_by f (range_with_len 0 1)
one_number f value below =
    let none : value ≡ 0 = omega arith in
    ap (λ n. 0 + n) (ap f (xor_zero_r value ∙ none))

-- an exclusive or with one number takes the values of a width to each other: a sum over all stays
sum_xor : (width value : ℕ) (f : ℕ → ℕ) → value < 2 ^ width
    → sum_by (λ x. f (bit_xor value x)) (range_with_len 0 (2 ^ width)) ≡ sum_by f (range_with_len 0 (2 ^ width))
sum_xor zero value f below = one_number f value below
sum_xor (suc width) value f below =
    let half : ℕ = 2 ^ width in
    let twice : 2 ^ suc width ≡ half + half = omega arith in
    let all = sum_halves f half in
    let moved : sum_by (λ x. f (bit_xor value x)) (range_with_len 0 (half + half)) ≡ sum_by f (range_with_len 0 (half + half)) =
    elim (cases_lt value half) [
      | inl low ↦
          let parted = sum_halves (λ x. f (bit_xor value x)) half in
          let lower = sum_xor width value f low in
          let upper = sum_below (λ x. f (bit_xor value (half + x))) (λ x. f (half + bit_xor value x)) 0 half half (omega arith)
          (λ x inside. ap f (low_low width value x low inside)) in
          let there = sum_xor width value (λ x. f (half + x)) low in
          omega arith
      | inr high ↦
          let rest : ℕ = value - half in
          let fits : rest < half = omega arith in
          let is : value ≡ half + rest = omega arith in
          let P : ℕ → Type 0 = λ v. sum_by (λ x. f (bit_xor v x)) (range_with_len 0 (half + half)) ≡ sum_by f (range_with_len 0 (half + half)) in
          let parted = sum_halves (λ x. f (bit_xor (half + rest) x)) half in
          let lower = sum_below (λ x. f (bit_xor (half + rest) x)) (λ x. f (half + bit_xor rest x)) 0 half half (omega arith)
          (λ x inside. ap f (high_low width rest x fits inside)) in
          let here = sum_xor width rest (λ x. f (half + x)) fits in
          let upper = sum_below (λ x. f (bit_xor (half + rest) (half + x))) (λ x. f (bit_xor rest x)) 0 half half (omega arith)
          (λ x inside. ap f (high_high width rest x fits inside)) in
          let there = sum_xor width rest f fits in
          subst P (sym is) (omega arith)
    ] in
    ap (λ n. sum_by (λ x. f (bit_xor value x)) (range_with_len 0 n)) twice ∙ moved
    ∙ sym (ap (λ n. sum_by f (range_with_len 0 n)) twice)

pub sum_mapped : (f g : ℕ → ℕ) (xs : List ℕ) → sum_by f (map g xs) ≡ sum_by (λ x. f (g x)) xs
sum_mapped f g [] = refl
sum_mapped f g (x ∷ xs) =
    let here = sum_by-cons f (g x) (map g xs) in
    let there = sum_by-cons (λ y. f (g y)) x xs in
    let rest = sum_mapped f g xs in
    omega arith

flipped_distance : (value x : ℕ) → value_distance (bit_xor value x) value ≡ count_ones x
unfolding value_distance
flipped_distance value x = ap count_ones (xor_back value x)

-- what is added up over the values that flips make is what is added up over the ring
pub flipped_sum : (f : ℕ → ℕ) (value width apart : ℕ) → value < 2 ^ width
    → sum_by f (flipped_ring value width apart) ≡ sum_by f (ring value width apart)
unfolding flipped_ring flips ring values
flipped_sum f value width apart in_width =
    let all = range_with_len 0 (2 ^ width) in
    let kept : ℕ → ℕ = λ other. cond (value_distance other value == apart) (f other) 0 in
    sum_mapped f (bit_xor value) (filter (λ flip. count_ones flip == apart) all)
    ∙ sum_filter (λ flip. f (bit_xor value flip)) (λ flip. count_ones flip == apart) all
    ∙ sum_same (λ flip. cond (count_ones flip == apart) (f (bit_xor value flip)) 0) (λ flip. kept (bit_xor value flip))
    (λ flip. sym (ap (λ n. cond (n == apart) (f (bit_xor value flip)) 0) (flipped_distance value flip))) all
    ∙ sum_xor width value kept in_width
    ∙ sym (sum_filter f (λ other. value_distance other value == apart) all)

rings_sum : (f : ℕ → ℕ) (value width from n : ℕ) → value < 2 ^ width
    → sum_by f (flat_map (flipped_ring value width) (range_with_len from n)) ≡ sum_by f (flat_map (ring value width) (range_with_len from n))
rings_sum f value width from zero in_width = refl
rings_sum f value width from (suc n) in_width =
    let here = sum_by-append f (flipped_ring value width from) (flat_map (flipped_ring value width) (range_with_len (from + 1) n)) in
    let there = sum_by-append f (ring value width from) (flat_map (ring value width) (range_with_len (from + 1) n)) in
    let first = flipped_sum f value width from in_width in
    let rest = rings_sum f value width (from + 1) n in_width in
    omega arith

-- and over the ball
pub flipped_ball_sum : (f : ℕ → ℕ) (value width units : ℕ) → value < 2 ^ width
    → sum_by f (flipped_ball value width units) ≡ sum_by f (ball value width units)
unfolding flipped_ball ball
flipped_ball_sum f value width units in_width = rings_sum f value width 0 units in_width

-- the values that flips make are of the width
pub flipped_below : (value width apart : ℕ) → value < 2 ^ width → All (λ other. other < 2 ^ width) (flipped_ring value width apart)
unfolding flipped_ring
flipped_below value width apart in_width =
    All-map (λ other. other < 2 ^ width) (bit_xor value) (flips width apart)
    (λ k d inside. xor_lt width value (get_or (flips width apart) k d) in_width (flips_in_width width apart k d inside))
