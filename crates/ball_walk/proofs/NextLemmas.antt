-- The next value at a distance: by its last digit and the digits before it.
use Rattle.std.proofs.Common.{◌≡◌, ◌≢◌, ℕ, zero, suc, ◌+◌, ◌-◌, ◌*◌, ◌/◌, ◌%◌, ◌^◌, ◌<◌, ◌≤◌, inl, inr, true, false, Option, Some, None, MatchOption, [], ◌∷◌, refl, sym, ◌∙◌, ap, subst, arith}
use Rattle.std.specs.Int.RustNames.{count_ones}
use Rattle.std.proofs.lemmas.Nat.{div-add-mod', pow-add}
use Rattle.std.proofs.lemmas.Bool.{cases_eq, cases_lt, false≢true}
use Rattle.std.proofs.Math.Pow.{pow_mono}
use Rattle.ball_walk.specs.Balls.{value_distance}
use Rattle.ball_walk.specs.Walk.{ring_from, IsNextAfter, HasNoneAfter}
use Rattle.ball_walk.proofs.DigitLemmas.{distance_top}
use Rattle.ball_walk.proofs.BallLemmas.{distance_le, ring_from_here, ring_from_next, ring_from_end}

-- the bound of a width is twice that of one digit less
pub bound_half : (width : ℕ) → 0 < width → 2 ^ width ≡ 2 * 2 ^ (width - 1)
bound_half width some =
    let e : width ≡ 1 + (width - 1) = omega arith in
    ap (λ n. 2 ^ n) e ∙ pow-add 2 1 (width - 1)

-- there are at most 4,096 values
pub few_values : (width : ℕ) → width ≤ 12 → 2 ^ width ≤ 4096
few_values width small = pow_mono small

-- how far two numbers are apart: by their last digits and by the digits before
pub split_distance : (a b : ℕ) → value_distance a b ≡ value_distance (a / 2) (b / 2) + value_distance (a % 2) (b % 2)
unfolding value_distance
split_distance a b =
    let x : a / 2 * 2 + a % 2 ≡ a = div-add-mod' a 2 in
    let y : b / 2 * 2 + b % 2 ≡ b = div-add-mod' b 2 in
    sym (ap (λ n. value_distance n (b / 2 * 2 + b % 2)) x ∙ ap (value_distance a) y)
    ∙ distance_top 1 (a / 2) (b / 2) (a % 2) (b % 2) (omega arith) (omega arith)

-- one of two digits agrees with a digit
pub one_agrees : (digit : ℕ) → digit < 2 → value_distance 0 digit + value_distance 1 digit ≡ 1
unfolding value_distance count_ones
one_agrees zero below = refl
one_agrees (suc zero) below = refl
one_agrees (suc (suc digit)) below = absurd (omega arith)

pub digit_le : (a b : ℕ) → value_distance (a % 2) (b % 2) ≤ 1
digit_le a b = distance_le 1 (a % 2) (b % 2) (omega arith) (omega arith)

-- how far a number is apart after a digit 0, and after a digit 1
even_distance : (high value : ℕ) → value_distance (2 * high) value ≡ value_distance high (value / 2) + value_distance 0 (value % 2)
even_distance high value =
    let a : 2 * high / 2 ≡ high = omega arith in
    let b : 2 * high % 2 ≡ 0 = omega arith in
    split_distance (2 * high) value
    ∙ ap (λ n. value_distance n (value / 2) + value_distance (2 * high % 2) (value % 2)) a
    ∙ ap (λ n. value_distance high (value / 2) + value_distance n (value % 2)) b

odd_distance : (high value : ℕ) → value_distance (2 * high + 1) value ≡ value_distance high (value / 2) + value_distance 1 (value % 2)
odd_distance high value =
    let a : (2 * high + 1) / 2 ≡ high = omega arith in
    let b : (2 * high + 1) % 2 ≡ 1 = omega arith in
    split_distance (2 * high + 1) value
    ∙ ap (λ n. value_distance n (value / 2) + value_distance ((2 * high + 1) % 2) (value % 2)) a
    ∙ ap (λ n. value_distance high (value / 2) + value_distance n (value % 2)) b

-- the last digit can't be raised
abbrev pub CannotRaise : ℕ → ℕ → ℕ → ℕ → Type 0
CannotRaise value last least most = last % 2 ≡ 0 → least ≤ value_distance (last + 1) value → value_distance (last + 1) value ≤ most → ⊥

-- as a test says that failed
pub not_raised : (value last least most : ℕ)
    → ((last % 2 ≡ 0) × (least ≤ value_distance (last + 1) value) × (value_distance (last + 1) value ≤ most) → false ≡ true)
    → CannotRaise value last least most
not_raised value last least most test = λ even enough near. absurd (false≢true (test (even, enough, near)))

-- a value above the last one has greater digits before its last, where that digit can't be raised
pub record IsAbove (value width last least most other : ℕ) : Type 0 where
  pub later : last / 2 < other / 2
  pub in_width : other / 2 < 2 ^ (width - 1)
  pub enough : least - 1 ≤ value_distance (other / 2) (value / 2)
  pub near : value_distance (other / 2) (value / 2) ≤ most

above : (value width last least most other : ℕ) → 0 < width → CannotRaise value last least most → last < other → other < 2 ^ width
    → least ≤ value_distance other value → value_distance other value ≤ most → IsAbove value width last least most other
above value width last least most other some stuck later in_width enough near =
    elim (cases_eq (other / 2) (last / 2)) [
      | inl same ↦
          let raised : other ≡ last + 1 = omega arith in
          let even : last % 2 ≡ 0 = omega arith in
          let P : ℕ → Type 0 = λ n. least ≤ value_distance n value in
          let Q : ℕ → Type 0 = λ n. value_distance n value ≤ most in
          absurd (stuck even (subst P raised enough) (subst Q raised near))
      | inr different ↦
          let split = split_distance other value in
          let digit = digit_le other value in
          let half = bound_half width some in
          record {
            later = omega arith;
            in_width = omega arith;
            enough = omega arith;
            near = omega arith;
          }
    ]

-- no value of no digits comes after another
pub none_without_digits : (value last least most : ℕ) → HasNoneAfter value 0 last least most
none_without_digits value last least most = record { none = λ other later in_width enough near. omega arith }

-- the value with its last digit raised comes next
pub next_raised : (value width last least most : ℕ) → 0 < width → last < 2 ^ width → last % 2 ≡ 0
    → least ≤ value_distance (last + 1) value → value_distance (last + 1) value ≤ most → IsNextAfter value width last least most (last + 1)
next_raised value width last least most some in_width even enough near =
    let half = bound_half width some in
    record {
      later = omega arith;
      in_width = omega arith;
      enough = enough;
      near = near;
      first = λ other later before e n. omega arith;
    }

-- there is none where the digits before the last have none
pub none_before : (value width last least most : ℕ) → 0 < width → CannotRaise value last least most
    → HasNoneAfter (value / 2) (width - 1) (last / 2) (least - 1) most → HasNoneAfter value width last least most
none_before value width last least most some stuck high =
    record {
      none = λ other later in_width enough near.
          let up = above value width last least most other some stuck later in_width enough near in
          high.none (other / 2) up.later up.in_width up.enough up.near;
    }

-- nothing lies between the last value and the next digits before its last
none_between : (value width last least most high other : ℕ) → 0 < width → CannotRaise value last least most
    → IsNextAfter (value / 2) (width - 1) (last / 2) (least - 1) most high → last < other → other < 2 * high
    → least ≤ value_distance other value → value_distance other value ≤ most → ⊥
none_between value width last least most high other some stuck next later before enough near =
    let half = bound_half width some in
    let fits = next.in_width in
    let up = above value width last least most other some stuck later (omega arith) enough near in
    next.first (other / 2) up.later (omega arith) up.enough up.near

-- the next value ends in 0 where that is in reach
pub next_even : (value width last least most high : ℕ) → 0 < width → CannotRaise value last least most
    → IsNextAfter (value / 2) (width - 1) (last / 2) (least - 1) most high
    → least ≤ value_distance (2 * high) value → value_distance (2 * high) value ≤ most → IsNextAfter value width last least most (2 * high)
next_even value width last least most high some stuck next enough near =
    let half = bound_half width some in
    let later = next.later in
    let fits = next.in_width in
    record {
      later = omega arith;
      in_width = omega arith;
      enough = enough;
      near = near;
      first = λ other above_last before e n. none_between value width last least most high other some stuck next above_last before e n;
    }

-- where 0 as the last digit is out of reach, 1 is within it
odd_enough : (least most high zero_apart one_apart even odd : ℕ) → least ≤ most → zero_apart + one_apart ≡ 1 → least - 1 ≤ high → high ≤ most
    → even ≡ high + zero_apart → odd ≡ high + one_apart → (least ≤ even → even ≤ most → ⊥) → least ≤ odd
odd_enough least most high zero_apart one_apart even odd order digits enough near is_even is_odd out =
    elim (cases_lt odd least) [
      | inl short ↦ absurd (out (omega arith) (omega arith))
      | inr fits ↦ fits
    ]

odd_near : (least most high zero_apart one_apart even odd : ℕ) → least ≤ most → zero_apart + one_apart ≡ 1 → least - 1 ≤ high → high ≤ most
    → even ≡ high + zero_apart → odd ≡ high + one_apart → (least ≤ even → even ≤ most → ⊥) → odd ≤ most
odd_near least most high zero_apart one_apart even odd order digits enough near is_even is_odd out =
    elim (cases_lt most odd) [
      | inl far ↦ absurd (out (omega arith) (omega arith))
      | inr fits ↦ fits
    ]

-- and else in 1
pub next_odd : (value width last least most high : ℕ) → 0 < width → least ≤ most → CannotRaise value last least most
    → IsNextAfter (value / 2) (width - 1) (last / 2) (least - 1) most high
    → (least ≤ value_distance (2 * high) value → value_distance (2 * high) value ≤ most → ⊥) → IsNextAfter value width last least most (2 * high + 1)
next_odd value width last least most high some order stuck next out =
    let half = bound_half width some in
    let later = next.later in
    let fits = next.in_width in
    let enough = next.enough in
    let near = next.near in
    let even = even_distance high value in
    let odd = odd_distance high value in
    let digits = one_agrees (value % 2) (omega arith) in
    record {
      later = omega arith;
      in_width = omega arith;
      enough = odd_enough least most (value_distance high (value / 2)) (value_distance 0 (value % 2)) (value_distance 1 (value % 2))
          (value_distance (2 * high) value) (value_distance (2 * high + 1) value) order digits enough near even odd out;
      near = odd_near least most (value_distance high (value / 2)) (value_distance 0 (value % 2)) (value_distance 1 (value % 2))
          (value_distance (2 * high) value) (value_distance (2 * high + 1) value) order digits enough near even odd out;
      first = λ other above_last before e n. elim (cases_eq other (2 * high)) [
        | inl same ↦
            let P : ℕ → Type 0 = λ m. least ≤ value_distance m value in
            let Q : ℕ → Type 0 = λ m. value_distance m value ≤ most in
            out (subst P same e) (subst Q same n)
        | inr different ↦ none_between value width last least most high other some stuck next above_last (omega arith) e n
      ];
    }

-- a ring passes over values that aren't its own
ring_skip : (value width apart from n : ℕ) → from + n ≤ 2 ^ width → ((other : ℕ) → from ≤ other → other < from + n → value_distance other value ≢ apart)
    → ring_from value width apart from ≡ ring_from value width apart (from + n)
ring_skip value width apart from zero fits none = let e : from ≡ from + 0 = omega arith in ap (ring_from value width apart) e
ring_skip value width apart from (suc n) fits none =
    let e : from + 1 + n ≡ from + suc n = omega arith in
    ring_from_next value width apart from (omega arith) (none from (omega arith) (omega arith))
    ∙ ring_skip value width apart (from + 1) n (omega arith) (λ other low high. none other (omega arith) (omega arith))
    ∙ ap (ring_from value width apart) e

-- a ring that doesn't begin at a value goes on at the next at its distance
pub ring_at_next : (value width apart from found : ℕ) → value_distance from value ≢ apart → IsNextAfter value width from apart apart found
    → ring_from value width apart from ≡ found ∷ ring_from value width apart (found + 1)
ring_at_next value width apart from found other next =
    let later = next.later in
    let fits = next.in_width in
    let enough = next.enough in
    let near = next.near in
    let e : from + (found - from) ≡ found = omega arith in
    ring_skip value width apart from (found - from) (omega arith)
    (λ x low high same. elim (cases_eq x from) [
      | inl here ↦ other (ap (λ n. value_distance n value) (sym here) ∙ same)
      | inr there ↦ next.first x (omega arith) (omega arith) (omega arith) (omega arith)
    ])
    ∙ ap (ring_from value width apart) e
    ∙ ring_from_here value width apart found fits (omega arith)

-- a ring that doesn't begin at a value and has none after it is at its end
pub ring_at_end : (value width apart from : ℕ) → from < 2 ^ width → value_distance from value ≢ apart → HasNoneAfter value width from apart apart
    → ring_from value width apart from ≡ []
ring_at_end value width apart from inside other none =
    let e : from + (2 ^ width - from) ≡ 2 ^ width = omega arith in
    ring_skip value width apart from (2 ^ width - from) (omega arith)
    (λ x low high same. elim (cases_eq x from) [
      | inl here ↦ other (ap (λ n. value_distance n value) (sym here) ∙ same)
      | inr there ↦ none.none x (omega arith) (omega arith) (omega arith) (omega arith)
    ])
    ∙ ap (ring_from value width apart) e
    ∙ ring_from_end value width apart (2 ^ width) (omega arith)

-- what comes of a ring that doesn't begin at a value, by what comes after that value
pub ring_after : (value width apart from : ℕ) (found : Option ℕ) → from < 2 ^ width → value_distance from value ≢ apart
    → MatchOption found (HasNoneAfter value width from apart apart) (IsNextAfter value width from apart apart)
    → MatchOption found (ring_from value width apart from ≡ []) (λ first. ring_from value width apart from ≡ first ∷ ring_from value width apart (first + 1))
ring_after value width apart from None inside other none = ring_at_end value width apart from inside other none
ring_after value width apart from (Some first) inside other next = ring_at_next value width apart from first other next
