-- A code that differs from the query at one more position of each part than its threshold is missed.
use Rattle.std.proofs.Common.{◌≡◌, ℕ, zero, suc, ◌+◌, ◌-◌, ◌<◌, ◌≤◌, ◌≢◌, cond, eqb, ℤ, pos, negsuc, ◌+ℤ◌, ◌≤ℤ◌, List, [], ◌∷◌, ◌++◌, length, map, take, set, get_or, sym, refl, ap, ◌∙◌, subst, ⊎_elim, arith}
use Rattle.std.specs.List.{All, AllByRecursion, sum_by, flat_map}
use Rattle.std.proofs.lemmas.Int.{ints}
use Rattle.std.proofs.lemmas.Bool.{cases_eq, cases_lt}
use Rattle.std.proofs.lemmas.Bool.Decides.{nat_tests}
use Rattle.std.proofs.lemmas.List.{length-set, length-take, length-append, get_or-set_same, get_or-set_other, get_or-map}
use Rattle.std.proofs.lemmas.List.Sums.{sum_by-cons}
use Rattle.std.proofs.lemmas.List.Elements.{recursion_from_All, All-from_recursion, All-set}
use Rattle.hamming_model.specs.Codes.{IsCode, difference, distance}
use Rattle.hamming_model.specs.Layouts.{IsLayout, part_distance}
use Rattle.threshold_model.specs.Vectors.{total, units_of}
use Rattle.threshold_model.specs.Splits.{units_total}
use Rattle.threshold_model.specs.Finding.{part_distances, threshold_at, IsShortVector, FitWidths, missed_positions, turned, missed_code, IsMissed}
use Rattle.threshold_model.proofs.SplitLemmas.{total_units}
use Rattle.threshold_model.proofs.PositionLemmas.{below, below_same, below_le, below_add, below_none, below_one, difference_at, distance_below, part_distance_sum, distance_is_sum}
use Rattle.threshold_model.proofs.FindingLemmas.{units_sum, units_at, far_of_units}

-- 1 at the positions of a list, 0 elsewhere
abbrev marked : List ℕ → ℕ → ℕ
marked [] p = 0
marked (x ∷ xs) p = cond (eqb x p) 1 (marked xs p)

marked_small : (xs : List ℕ) (p : ℕ) → marked xs p ≤ 1
marked_small [] p = omega arith
marked_small (x ∷ xs) p = let rest = marked_small xs p in grind (arith, nat_tests)

marked_more : (x : ℕ) (xs : List ℕ) (p : ℕ) → marked xs p ≤ marked (x ∷ xs) p
marked_more x xs p = let rest = marked_small xs p in grind (arith, nat_tests)

marked_left : (xs ys : List ℕ) (p : ℕ) → marked xs p ≤ marked (xs ++ ys) p
marked_left [] ys p = omega arith
marked_left (x ∷ xs) ys p = let rest = marked_left xs ys p in grind (arith, nat_tests)

marked_right : (xs ys : List ℕ) (p : ℕ) → marked ys p ≤ marked (xs ++ ys) p
marked_right [] ys p = omega arith
marked_right (x ∷ xs) ys p = omega (arith, marked_right xs ys p, marked_more x (xs ++ ys) p)

one_hit : (x n : ℕ) → below (λ p. cond (eqb x p) 1 0) n ≤ 1
one_hit x n =
    ⊎_elim (λ (less : x < n). let e = below_one (λ p. cond (eqb x p) 1 0) x n less (λ p ne. grind (arith, nat_tests)) in
    let small : cond (eqb x x) 1 0 ≤ 1 = grind (arith, nat_tests) in omega arith)
    (λ (le : n ≤ x). let e = below_none (λ p. cond (eqb x p) 1 0) n (λ p less. grind (arith, nat_tests)) in omega arith) (cases_lt x n)

marked_few : (xs : List ℕ) (n : ℕ) → below (marked xs) n ≤ length xs
marked_few [] n = let e = below_none (marked []) n (λ p less. refl) in omega arith
marked_few (x ∷ xs) n =
    let add = below_add (λ p. cond (eqb x p) 1 0) (marked xs) (λ p. cond (eqb x p) 1 0 + marked xs p) n (λ p. refl) in
    let le = below_le (marked (x ∷ xs)) (λ p. cond (eqb x p) 1 0 + marked xs p) n (λ p. grind (arith, nat_tests)) in
    omega (arith, marked_few xs n, one_hit x n)

length_turned : (ps query : List ℕ) → length (turned ps query) ≡ length query
length_turned [] query = refl
length_turned (x ∷ ps) query = length-set (turned ps query) x (1 - get_or query x 0) ∙ length_turned ps query

turned_bit : (bit : ℕ) → bit < 2 → difference (1 - bit) bit ≡ 1
turned_bit bit less = grind (arith, nat_tests)

same_bit : (bit : ℕ) → difference bit bit ≡ 0
same_bit bit = grind (arith, nat_tests)

marked_here : (x : ℕ) (xs : List ℕ) → marked (x ∷ xs) x ≡ 1
marked_here x xs = grind (arith, nat_tests)

marked_elsewhere : (x p : ℕ) (xs : List ℕ) → x ≢ p → marked (x ∷ xs) p ≡ marked xs p
marked_elsewhere x p xs ne = grind (arith, nat_tests)

turned_at : (ps query : List ℕ) (p : ℕ) → p < length query → get_or query p 0 < 2 → difference_at (turned ps query) query p ≡ marked ps p
turned_at [] query p less small = same_bit (get_or query p 0)
turned_at (x ∷ ps) query p less small =
    ⊎_elim
    (λ (e : x ≡ p).
    let inside : p < length (turned ps query) = omega (arith, length_turned ps query) in
    subst (λ x. difference (get_or (set (turned ps query) x (1 - get_or query x 0)) p 0) (get_or query p 0) ≡ marked (x ∷ ps) p) (sym e)
    (ap (λ bit. difference bit (get_or query p 0)) (get_or-set_same (turned ps query) p (1 - get_or query p 0) 0 inside)
    ∙ turned_bit (get_or query p 0) small ∙ sym (marked_here p ps)))
    (λ (ne : x ≢ p).
    ap (λ bit. difference bit (get_or query p 0)) (get_or-set_other (turned ps query) x p (1 - get_or query x 0) 0 (λ same. ne (sym same)))
    ∙ turned_at ps query p less small ∙ sym (marked_elsewhere x p ps ne))
    (cases_eq x p)

turned_binary : (ps query : List ℕ) → All (λ bit. bit < 2) query → All (λ bit. bit < 2) (turned ps query)
turned_binary [] query binary = binary
turned_binary (x ∷ ps) query binary = All-set (λ bit. bit < 2) (turned ps query) x (1 - get_or query x 0) (omega arith) (turned_binary ps query binary)

all_left : (n : ℕ) (xs ys : List ℕ) → AllByRecursion (λ p. p < n) (xs ++ ys) → AllByRecursion (λ p. p < n) xs
all_left n [] ys all = tt
all_left n (x ∷ xs) ys all = (all.0, all_left n xs ys all.1)

all_right : (n : ℕ) (xs ys : List ℕ) → AllByRecursion (λ p. p < n) (xs ++ ys) → AllByRecursion (λ p. p < n) ys
all_right n [] ys all = all
all_right n (x ∷ xs) ys all = all_right n xs ys all.1

-- a function that is at least 1 at the first positions of a part adds up to their number
count_marked : (g : ℕ → ℕ) (n u : ℕ) (part : List ℕ) → AllByRecursion (λ p. p < n) part
    → ((p : ℕ) → p < n → marked (take u part) p ≤ g p) → u ≤ length part → u ≤ sum_by g part
count_marked g n zero part inside le fits = omega arith
count_marked g n (suc u) [] inside le fits = absurd (omega arith)
count_marked g n (suc u) (x ∷ part) inside le fits =
    let rest = count_marked g n u part inside.1 (λ p less. omega (arith, marked_more x (take u part) p, le p less)) (omega arith) in
    omega (arith, sum_by-cons g x part, le x inside.0, marked_here x (take u part))

-- each distance is at least the units at its place
abbrev Covers : List ℕ → List ℕ → Type 0
Covers [] ds = Unit {0}
Covers (u ∷ us) [] = ⊥
Covers (u ∷ us) (d ∷ ds) = (u ≤ d) × Covers us ds

covers_total : (us ds : List ℕ) → Covers us ds → units_total us ≤ units_total ds
covers_total [] ds covers = omega arith
covers_total (u ∷ us) [] covers = absurd covers
covers_total (u ∷ us) (d ∷ ds) covers = omega (arith, covers.0, covers_total us ds covers.1)

covers_at : (us ds : List ℕ) → Covers us ds → (k : ℕ) → get_or us k 0 ≤ get_or ds k 0
covers_at [] ds covers k = omega arith
covers_at (u ∷ us) [] covers k = absurd covers
covers_at (u ∷ us) (d ∷ ds) covers zero = covers.0
covers_at (u ∷ us) (d ∷ ds) covers (suc k) = covers_at us ds covers.1 k

parts_covered : (code query : List ℕ) (n : ℕ) (ts : List ℤ) (layout : List (List ℕ)) → length ts ≡ length layout
    → AllByRecursion (λ p. p < n) (flat_map (λ part. part) layout)
    → FitWidths ts layout → ((p : ℕ) → p < n → marked (missed_positions ts layout) p ≤ difference_at code query p)
    → Covers (map units_of ts) (part_distances layout code query)
parts_covered code query n [] layout size inside fits le = tt
parts_covered code query n (t ∷ ts) [] size inside fits le = absurd (omega arith)
parts_covered code query n (t ∷ ts) (part ∷ layout) size inside fits le =
    let here = count_marked (difference_at code query) n (units_of t) part (all_left n part (flat_map (λ part. part) layout) inside)
    (λ p less. omega (arith, marked_left (take (units_of t) part) (missed_positions ts layout) p, le p less)) (fits 0 (omega arith)) in (
      omega (arith, here, part_distance_sum code query part),
      parts_covered code query n ts layout (omega arith) (all_right n part (flat_map (λ part. part) layout) inside) (λ k less. fits (suc k) (omega arith))
          (λ p less. omega (arith, marked_right (take (units_of t) part) (missed_positions ts layout) p, le p less)),
    )

positions_few : (ts : List ℤ) (layout : List (List ℕ)) → length (missed_positions ts layout) ≤ units_total (map units_of ts)
positions_few [] layout = omega arith
positions_few (t ∷ ts) [] = omega arith
positions_few (t ∷ ts) (part ∷ layout) =
    omega (arith, length-append (take (units_of t) part) (missed_positions ts layout), length-take (units_of t) part, positions_few ts layout)

module _ (bits tau : ℕ) (layout : List (List ℕ)) (ts : List ℤ) (query : List ℕ)
    (lay : IsLayout bits layout) (is_query : IsCode bits query) (short : IsShortVector tau (length layout) ts) (fits : FitWidths ts layout) where
  binary : All (λ bit. bit < 2) query
  binary = All-from_recursion (λ bit. bit < 2) query is_query.binary

  marks : (p : ℕ) → p < bits → difference_at (missed_code ts layout query) query p ≡ marked (missed_positions ts layout) p
  marks p less = let inside : p < length query = omega (arith, is_query.size) in turned_at (missed_positions ts layout) query p inside (binary p 0 inside)

  code_size : length (missed_code ts layout query) ≡ bits
  code_size = length_turned (missed_positions ts layout) query ∙ is_query.size

  covered : Covers (map units_of ts) (part_distances layout (missed_code ts layout query) query)
  covered =
      parts_covered (missed_code ts layout query) query bits ts layout short.size
      (recursion_from_All (λ position. position < bits) (flat_map (λ part. part) layout) lay.in_range) fits (λ p less. omega (arith, marks p less))

  units_are : units_total (map units_of ts) ≡ tau
  units_are =
      let all = total_units ts (recursion_from_All (λ threshold. negsuc 0 ≤ℤ threshold) ts short.entries) in
      let same : total ts +ℤ pos (length ts) ≡ total ts +ℤ pos (length layout) = ap (λ n. total ts +ℤ pos n) short.size in
      let sum : total ts +ℤ pos (length layout) ≡ pos tau = short.sum in
      omega (arith, ints)

  distance_is : distance (missed_code ts layout query) query ≡ tau
  distance_is =
      let by_parts = distance_is_sum bits layout (missed_code ts layout query) query lay code_size is_query.size in
      let sums = units_sum (part_distances layout (missed_code ts layout query) query) in
      let low = covers_total (map units_of ts) (part_distances layout (missed_code ts layout query) query) covered in
      let by_bits = distance_below (missed_code ts layout query) query (code_size ∙ sym is_query.size) in
      let wide : below (difference_at (missed_code ts layout query) query) (length query)
      ≡ below (difference_at (missed_code ts layout query) query) bits =
      ap (below (difference_at (missed_code ts layout query) query)) is_query.size in
      let same = below_same (difference_at (missed_code ts layout query) query) (marked (missed_positions ts layout)) bits marks in
      let few = marked_few (missed_positions ts layout) bits in
      omega (arith, positions_few ts layout, units_are)

  pub code_missed : IsMissed bits tau layout ts query (missed_code ts layout query)
  code_missed = record {
    is_code = record {
      size = code_size;
      binary = recursion_from_All (λ bit. bit < 2) (missed_code ts layout query)
          (turned_binary (missed_positions ts layout) query binary);
    };
    near = distance_is;
    missed = λ part less.
        far_of_units (part_distance (get_or layout part []) (missed_code ts layout query) query) (threshold_at ts part)
        (omega (
          arith,
          units_at ts part,
          covers_at (map units_of ts) (part_distances layout (missed_code ts layout query) query) covered part,
          get_or-map (λ other. part_distance other (missed_code ts layout query) query) layout part [] 0 less,
        ));
  }
