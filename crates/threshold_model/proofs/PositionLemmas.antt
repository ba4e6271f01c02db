-- Sums over positions: over a layout that has each position once they are those over all positions.
use Rattle.std.proofs.Common.{◌≡◌, ℕ, zero, suc, ◌+◌, ◌*◌, ◌<◌, ◌≤◌, ◌≢◌, cond, eqb, List, [], ◌∷◌, length, get_or, sum, sym, refl, ap, ◌∙◌, ⊎_elim, arith}
use Rattle.std.specs.List.{AllByRecursion, sum_by, count_by, flat_map}
use Rattle.std.proofs.lemmas.Bool.{cases_eq}
use Rattle.std.proofs.lemmas.Bool.Decides.{nat_tests}
use Rattle.std.proofs.lemmas.List.Sums.{sum_by-cons, sum_by-append}
use Rattle.std.proofs.lemmas.List.Elements.{recursion_from_All}
use Rattle.hamming_model.specs.Codes.{difference, distance}
use Rattle.hamming_model.specs.Layouts.{IsLayout, part_distance}
use Rattle.threshold_model.specs.Finding.{part_distances}

-- the sum of a function over the numbers below n
abbrev pub below : (ℕ → ℕ) → ℕ → ℕ
below f zero = 0
below f (suc n) = below f n + f n

pub below_same : (f g : ℕ → ℕ) (n : ℕ) → ((p : ℕ) → p < n → f p ≡ g p) → below f n ≡ below g n
below_same f g zero same = refl
below_same f g (suc n) same = omega (arith, below_same f g n (λ p less. same p (omega arith)), same n (omega arith))

pub below_le : (f g : ℕ → ℕ) (n : ℕ) → ((p : ℕ) → f p ≤ g p) → below f n ≤ below g n
below_le f g zero le = omega arith
below_le f g (suc n) le = omega (arith, below_le f g n le, le n)

pub below_add : (f g h : ℕ → ℕ) (n : ℕ) → ((p : ℕ) → h p ≡ f p + g p) → below h n ≡ below f n + below g n
below_add f g h zero add = refl
below_add f g h (suc n) add = omega (arith, below_add f g h n add, add n)

pub below_none : (f : ℕ → ℕ) (n : ℕ) → ((p : ℕ) → p < n → f p ≡ 0) → below f n ≡ 0
below_none f zero none = refl
below_none f (suc n) none = omega (arith, below_none f n (λ p less. none p (omega arith)), none n (omega arith))

pub below_one : (f : ℕ → ℕ) (x n : ℕ) → x < n → ((p : ℕ) → p ≢ x → f p ≡ 0) → below f n ≡ f x
below_one f x zero less none = absurd (omega arith)
below_one f x (suc n) less none =
    ⊎_elim (λ (e : x ≡ n). omega (arith, ap f e, below_none f n (λ p lt. none p (omega arith))))
    (λ (ne : x ≢ n). omega (arith, below_one f x n (omega arith) none, none n (λ same. ne (sym same)))) (cases_eq x n)

pub below_first : (f : ℕ → ℕ) (n : ℕ) → below f (suc n) ≡ f 0 + below (λ p. f (suc p)) n
below_first f zero = omega arith
below_first f (suc n) = omega (arith, below_first f n)

spread : (a b k n : ℕ) → n ≡ a + b → n * k ≡ a * k + b * k
spread a b k n e = let product : n * k ≡ (a + b) * k = ap (λ m. m * k) e in omega arith

-- how often a number stands in a list, as a sum over all numbers
pub sum_by_counts : (f : ℕ → ℕ) (n : ℕ) (xs : List ℕ) → AllByRecursion (λ x. x < n) xs → sum_by f xs ≡ below (λ p. count_by (λ other. eqb other p) xs * f p) n
sum_by_counts f n [] inside = sym (below_none (λ p. 0 * f p) n (λ p less. omega arith))
sum_by_counts f n (x ∷ xs) inside =
    let here = below_one (λ p. cond (eqb x p) 1 0 * f p) x n inside.0 (λ p ne. grind (arith, nat_tests)) in
    let is_x : cond (eqb x x) 1 0 * f x ≡ f x = grind (arith, nat_tests) in
    let rest = sum_by_counts f n xs inside.1 in
    let step = below_add (λ p. cond (eqb x p) 1 0 * f p) (λ p. count_by (λ other. eqb other p) xs * f p) (λ p. count_by (λ other. eqb other p) (x ∷ xs) * f p) n
    (λ p. spread (cond (eqb x p) 1 0) (count_by (λ other. eqb other p) xs) (f p) (count_by (λ other. eqb other p) (x ∷ xs))
    (sum_by-cons (λ other. cond (eqb other p) 1 0) x xs)) in
    omega (arith, sum_by-cons f x xs)

pub sum_by_once : (f : ℕ → ℕ) (n : ℕ) (xs : List ℕ) → AllByRecursion (λ x. x < n) xs
    → ((p : ℕ) → p < n → count_by (λ other. eqb other p) xs ≡ 1) → sum_by f xs ≡ below f n
sum_by_once f n xs inside once =
    sum_by_counts f n xs inside ∙ below_same (λ p. count_by (λ other. eqb other p) xs * f p) f n (λ p less. let e = once p less in grind arith)

-- the difference of two codes at a position
abbrev pub difference_at : List ℕ → List ℕ → ℕ → ℕ
difference_at code query position = difference (get_or code position 0) (get_or query position 0)

pub distance_below : (code query : List ℕ) → length code ≡ length query → distance code query ≡ below (difference_at code query) (length query)
distance_below [] [] size = refl
distance_below [] (b ∷ others) size = absurd (omega arith)
distance_below (a ∷ rest) [] size = absurd (omega arith)
distance_below (a ∷ rest) (b ∷ others) size =
    let first = below_first (difference_at (a ∷ rest) (b ∷ others)) (length others) in
    let more : distance rest others ≡ below (difference_at rest others) (length others) = distance_below rest others (omega arith) in
    ap (λ n. difference a b + n) more ∙ sym first

pub part_distance_sum : (code query part : List ℕ) → part_distance part code query ≡ sum_by (difference_at code query) part
part_distance_sum code query [] = refl
part_distance_sum code query (p ∷ part) = ap (λ n. difference_at code query p + n) (part_distance_sum code query part)
    ∙ sym (sum_by-cons (difference_at code query) p part)

pub parts_sum : (code query : List ℕ) (layout : List (List ℕ))
    → sum (part_distances layout code query) ≡ sum_by (difference_at code query) (flat_map (λ part. part) layout)
parts_sum code query [] = refl
parts_sum code query (part ∷ layout) =
    sum_by-cons (λ x. x) (part_distance part code query) (part_distances layout code query)
    ∙ ap (λ n. part_distance part code query + n) (parts_sum code query layout)
    ∙ ap (λ n. n + sum_by (difference_at code query) (flat_map (λ part. part) layout)) (part_distance_sum code query part)
    ∙ sym (sum_by-append (difference_at code query) part (flat_map (λ part. part) layout))

-- a sum over the parts of a layout is one over all positions
pub layout_sum : (f : ℕ → ℕ) (bits : ℕ) (layout : List (List ℕ)) → IsLayout bits layout → sum_by f (flat_map (λ part. part) layout) ≡ below f bits
layout_sum f bits layout h = sum_by_once f bits (flat_map (λ part. part) layout)
    (recursion_from_All (λ position. position < bits) (flat_map (λ part. part) layout) h.in_range) h.once

pub distance_is_sum : (bits : ℕ) (layout : List (List ℕ)) (code query : List ℕ) → IsLayout bits layout → length code ≡ bits
    → length query ≡ bits → distance code query ≡ sum (part_distances layout code query)
distance_is_sum bits layout code query h size other =
    distance_below code query (size ∙ sym other) ∙ ap (below (difference_at code query)) other
    ∙ sym (layout_sum (difference_at code query) bits layout h) ∙ sym (parts_sum code query layout)
