-- Levels of values, and tables of them.
use Rattle.std.proofs.Common.{◌≡◌, ℕ, zero, suc, ◌+◌, ◌<◌, ◌≤◌, ◌==◌, Bool, true, false, nat_lt, cond, inl, inr, List, [], ◌∷◌, length, take, sum, count_by, get_or, replicate, refl, sym, ◌∙◌, ap, arith, subst}
use Rattle.std.proofs.lemmas.Bool.{cases_eq, cases_lt, lt-ltb, le-ltb, eq-eqb, ne_eqb}
use Rattle.std.proofs.lemmas.List.{take_all, get_or-replicate, get_or_past, length-replicate}
use Rattle.std.proofs.lemmas.List.FromFn.{fill_by_all, get_or-map-range_with_len, length-map-range_with_len}
use Rattle.std.proofs.lemmas.List.Sums.{sum_by_more, sum_by-le, sum_by-cons}
use Rattle.ball_walk.specs.Balls.{is_near, value_distance}
use Rattle.sample_table.specs.Levels.{levels_of}
use Rattle.sample_table.specs.Sums.{AreCountRows, IsCountRow, is_last_at}

-- numbers by place are the levels
pub levels_filled : (values out : List ℕ) (value width : ℕ) → length out ≡ width
    → ((at : ℕ) → at < width → get_or out at 0 ≡ count_by (is_near value at) values) → out ≡ levels_of values value width
unfolding levels_of
levels_filled values out value width long each = fill_by_all (λ units. count_by (is_near value units) values) out width 0 long each

-- the level at a place
pub level_at : (values : List ℕ) (value width units : ℕ) → units < width → get_or (levels_of values value width) units 0
    ≡ count_by (is_near value units) values
unfolding levels_of
level_at values value width units below = get_or-map-range_with_len (λ n. count_by (is_near value n) values) 0 width units units 0 below (omega arith)

pub level_number : (values : List ℕ) (value width : ℕ) → length (levels_of values value width) ≡ width
unfolding levels_of
level_number values value width = length-map-range_with_len (λ n. count_by (is_near value n) values) 0 width

none_below : (n : ℕ) → cond (nat_lt n 0) 1 0 ≤ 0
none_below n = rw (le-ltb n 0 (omega arith)) (omega arith)

-- no value is nearer than none
pub none_near : (values : List ℕ) (value : ℕ) → count_by (is_near value 0) values ≡ 0
unfolding is_near
none_near values value = let h = sum_by-le (λ x. cond (nat_lt (value_distance x value) 0) 1 0) 0 values
    (λ k d below. none_below (value_distance (get_or values k d) value)) in omega arith

none_last : (n : ℕ) → cond (n + 1 == 0) 1 0 ≤ 0
none_last n = rw (ne_eqb (n + 1) 0 (λ (same : n + 1 ≡ 0). omega (arith, same))) (omega arith)

-- and none just so near
none_at : (values : List ℕ) (value : ℕ) → count_by (is_last_at value 0) values ≡ 0
none_at values value = let h = sum_by-le (λ x. cond (value_distance x value + 1 == 0) 1 0) 0 values
    (λ k d below. none_last (value_distance (get_or values k d) value)) in omega arith

-- below one more is below, or just there
one_more : (d n : ℕ) → cond (nat_lt d (n + 1)) 1 0 ≡ cond (nat_lt d n) 1 0 + cond (d + 1 == n + 1) 1 0
one_more d n = elim (cases_lt d n) [
  | inl less ↦ rw (lt-ltb d (n + 1) (omega arith), lt-ltb d n less, ne_eqb (d + 1) (n + 1) (λ (same : d + 1 ≡ n + 1). omega (arith, same, less))) refl
  | inr more ↦ elim (cases_eq d n) [
    | inl same ↦ rw (lt-ltb d (n + 1) (omega arith), le-ltb d n more, eq-eqb (d + 1) (n + 1) (omega arith)) refl
    | inr differs ↦
        rw (le-ltb d (n + 1) (omega (arith, more, differs)), le-ltb d n more, ne_eqb (d + 1) (n + 1) (λ (same : d + 1 ≡ n + 1). differs (omega arith))) refl
  ]
]

near_more : (values : List ℕ) (value at : ℕ) → count_by (is_near value (at + 1)) values
    ≡ count_by (is_near value at) values + count_by (is_last_at value (at + 1)) values
unfolding is_near
near_more [] value at = refl
near_more (x ∷ xs) value at =
    let rest = near_more xs value at in
    let here = one_more (value_distance x value) at in
    let one = sum_by-cons (λ y. cond (nat_lt (value_distance y value) (at + 1)) 1 0) x xs in
    let two = sum_by-cons (λ y. cond (nat_lt (value_distance y value) at) 1 0) x xs in
    let three = sum_by-cons (λ y. cond (value_distance y value + 1 == at + 1) 1 0) x xs in
    omega arith

one_at_most : (b : Bool) → cond b 1 0 ≤ 1
one_at_most true = omega arith
one_at_most false = omega arith

pub count_most : (values : List ℕ) (value at : ℕ) → count_by (is_near value at) values ≤ length values
count_most values value at =
    let h = sum_by-le (λ x. cond (is_near value at x) 1 0) 1 values (λ k d below. one_at_most (is_near value at (get_or values k d))) in
    omega arith

-- the numbers up to a place add up to how many values are nearer than that
module _ (values out : List ℕ) (value : ℕ) (each : (at : ℕ) → at < length out → get_or out at 0 ≡ count_by (is_last_at value at) values) where
  pub added_up : (at : ℕ) → at < length out → sum (take (at + 1) out) ≡ count_by (is_near value at) values
  added_up zero below =
      let one = sum_by_more (λ x. x) out 0 0 below in
      let first = each 0 below in
      let none = none_at values value in
      let near = none_near values value in
      omega arith
  added_up (suc at) below =
      let next : at + 1 ≡ suc at = omega arith in
      let one = sum_by_more (λ x. x) out (at + 1) 0 (omega arith) in
      let before = added_up at (omega arith) in
      let here = each (at + 1) (omega arith) in
      let more = near_more values value at in
      let all : sum (take (at + 1 + 1) out) ≡ count_by (is_near value (at + 1)) values = omega arith in
      subst (λ n. sum (take (n + 1) out) ≡ count_by (is_near value n) values) next all

pub few_in_all : (values out : List ℕ) (value : ℕ) → ((at : ℕ) → at < length out → get_or out at 0 ≡ count_by (is_last_at value at) values)
    → sum out ≤ length values
few_in_all values [] value each = omega arith
few_in_all values (x ∷ xs) value each =
    let all = ap sum (take_all (length xs + 1) (x ∷ xs) (omega arith)) in
    let near = added_up values (x ∷ xs) value each (length xs) (omega arith) in
    let most = count_most values value (length xs) in
    omega arith

-- levels are a row of counts
pub levels_row : (values : List ℕ) (value width : ℕ) → length values ≤ 64 → 0 < width → IsCountRow width (levels_of values value width)
levels_row values value width few some =
    record {
      size = level_number values value width;
      starts = level_at values value width 0 some ∙ none_near values value;
      small = λ units. elim (cases_lt units width) [
        | inl less ↦ let h = level_at values value width units less in let most = count_most values value units in omega arith
        | inr past ↦ let long = level_number values value width in
            let none = get_or_past (levels_of values value width) units 0 (omega arith) in omega arith
      ];
    }

zero_at : (m j : ℕ) → ◌≡◌ {A = ℕ} (get_or {A = ℕ} (replicate {A = ℕ} m 0) j 0) 0
zero_at zero j = refl
zero_at (suc m) zero = refl
zero_at (suc m) (suc j) = zero_at m j

-- and so are zeros
pub zero_row : (width : ℕ) → IsCountRow width (replicate width 0)
zero_row width =
    record {
      size = length-replicate width 0;
      starts = zero_at width 0;
      small = λ units. let h = zero_at width units in omega arith;
    }

pub zero_rows : (number width : ℕ) → AreCountRows width (replicate number (replicate {A = ℕ} width 0))
zero_rows number width = λ part below.
    subst (IsCountRow width) (sym (get_or-replicate number part (replicate {A = ℕ} width 0) []
    (let size : length (replicate number (replicate {A = ℕ} width 0)) ≡ number = length-replicate number (replicate {A = ℕ} width 0) in
    let less : part < length (replicate number (replicate {A = ℕ} width 0)) = below in omega arith))) (zero_row width)
