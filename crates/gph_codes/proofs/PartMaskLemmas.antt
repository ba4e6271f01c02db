-- The distance of two codes at a part of a layout is that under the part's mask.
use Rattle.std.proofs.Common.{◌≡◌, ◌≢◌, ℕ, zero, suc, ◌+◌, ◌<◌, ◌≤◌, cond, eqb, refl, ap, ◌∙◌, ⊎_elim, arith}
use Rattle.std.proofs.Common.{List, [], ◌∷◌, ◌++◌, length, set, replicate, get_or}
use Rattle.std.specs.List.{AllByRecursion, count_by, flat_map}
use Rattle.std.proofs.lemmas.Bool.{cases_eq}
use Rattle.std.proofs.lemmas.Bool.Decides.{nat_tests}
use Rattle.std.proofs.lemmas.List.{length-set, length-replicate, get_or-set_same, get_or-set_other}
use Rattle.std.proofs.lemmas.List.Elements.{recursion_from_All}
use Rattle.std.proofs.lemmas.List.Sums.{sum_by-cons, sum_by-append}
use Rattle.hamming_model.specs.Codes.{difference}
use Rattle.hamming_model.specs.Layouts.{IsLayout, part_distance}
use Rattle.gph_codes.specs.Masks.{difference_under, distance_under, with_ones, mask_of}

-- one more position in the mask adds the difference there
under-set : (mask code other : List ℕ) (p : ℕ) → length code ≡ length mask → length other ≡ length mask
    → p < length mask → get_or mask p 0 ≡ 0
    → distance_under (set mask p 1) code other
    ≡ distance_under mask code other + difference (get_or code p 0) (get_or other p 0)
under-set [] code other p same also less none = absurd (omega arith)
under-set (m ∷ mask) [] other p same also less none = absurd (omega arith)
under-set (m ∷ mask) (a ∷ code) [] p same also less none = absurd (omega arith)
under-set (m ∷ mask) (a ∷ code) (b ∷ other) zero same also less none =
    let off : difference_under m a b ≡ 0 = ap (λ n. difference_under n a b) none in
    omega arith
under-set (m ∷ mask) (a ∷ code) (b ∷ other) (suc p) same also less none =
    omega (arith, under-set mask code other p (omega arith) (omega arith) (omega arith) none)

-- no position below so many stands twice in the list, and none of the list is in the mask
abbrev AreNew : ℕ → List ℕ → List ℕ → Type 0
AreNew bits mask positions =
    (p : ℕ) → p < bits → get_or mask p 0 + count_by (λ other. eqb other p) positions ≤ 1

new_first : (bits : ℕ) (mask : List ℕ) (p : ℕ) (positions : List ℕ) → p < bits
    → AreNew bits mask (p ∷ positions) → get_or mask p 0 ≡ 0
new_first bits mask p positions less new =
    let here : cond {A = ℕ} (eqb p p) 1 0 ≡ 1 = grind (arith, nat_tests) in
    omega (arith, new p less, sum_by-cons (λ other. cond (eqb other p) 1 0) p positions)

new_rest : (bits : ℕ) (mask : List ℕ) (p : ℕ) (positions : List ℕ) → p < length mask
    → AreNew bits mask (p ∷ positions) → AreNew bits (set mask p 1) positions
new_rest bits mask p positions inside new q less =
    let old = new q less in
    let split = sum_by-cons (λ other. cond (eqb other q) 1 0) p positions in
    ⊎_elim
    (λ (e : q ≡ p).
    let here : cond {A = ℕ} (eqb p q) 1 0 ≡ 1 = grind (arith, nat_tests) in
    let set_here : get_or (set mask p 1) q 0 ≡ 1 =
    ap (λ n. get_or (set mask p 1) n 0) e ∙ get_or-set_same mask p 1 0 inside in
    omega arith)
    (λ (ne : q ≢ p). let kept = get_or-set_other mask p q 1 0 ne in omega arith)
    (cases_eq q p)

-- under a mask with some positions more, codes are as far apart as before and at these positions
under_ones : (bits : ℕ) (positions mask code other : List ℕ)
    → length code ≡ length mask → length other ≡ length mask
    → bits ≤ length mask → AllByRecursion (λ p. p < bits) positions → AreNew bits mask positions
    → distance_under (with_ones mask positions) code other
    ≡ distance_under mask code other + part_distance positions code other
under_ones bits [] mask code other same also room inside new = omega arith
under_ones bits (p ∷ positions) mask code other same also room inside new =
    let size = length-set mask p 1 in
    let first = inside.0 in
    let off = new_first bits mask p positions first new in
    let here = under-set mask code other p same also (omega arith) off in
    let new_here = new_rest bits mask p positions (omega arith) new in
    let rest = under_ones bits positions (set mask p 1) code other
    (omega arith) (omega arith) (omega arith) inside.1 new_here in
    omega arith

-- a mask of zeros
under_zeros : (size : ℕ) (code other : List ℕ) → distance_under (replicate size 0) code other ≡ 0
under_zeros zero code other = refl
under_zeros (suc size) [] other = refl
under_zeros (suc size) (a ∷ code) [] = refl
under_zeros (suc size) (a ∷ code) (b ∷ other) = omega (arith, under_zeros size code other)

zero_at : (size p : ℕ) → get_or {A = ℕ} (replicate size 0) p 0 ≡ 0
zero_at zero p = refl
zero_at (suc size) zero = refl
zero_at (suc size) (suc p) = zero_at size p

-- a position stands at most as often in a part as in the layout
count_in_part : (layout : List (List ℕ)) (part p : ℕ)
    → count_by (λ other. eqb other p) (get_or layout part [])
    ≤ count_by (λ other. eqb other p) (flat_map (λ positions. positions) layout)
count_in_part [] part p = omega arith
count_in_part (positions ∷ layout) zero p =
    let rest : List ℕ = flat_map (λ others. others) layout in
    omega (arith, sum_by-append (λ other. cond (eqb other p) 1 0) positions rest)
count_in_part (positions ∷ layout) (suc part) p =
    let rest : List ℕ = flat_map (λ others. others) layout in
    omega (arith, count_in_part layout part p, sum_by-append (λ other. cond (eqb other p) 1 0) positions rest)

-- what is true of all is true of the front, and of the back
all_front : (bits : ℕ) (xs ys : List ℕ)
    → AllByRecursion (λ p. p < bits) (xs ++ ys) → AllByRecursion (λ p. p < bits) xs
all_front bits [] ys all = tt
all_front bits (x ∷ xs) ys all = (all.0, all_front bits xs ys all.1)

all_back : (bits : ℕ) (xs ys : List ℕ)
    → AllByRecursion (λ p. p < bits) (xs ++ ys) → AllByRecursion (λ p. p < bits) ys
all_back bits [] ys all = all
all_back bits (x ∷ xs) ys all = all_back bits xs ys all.1

-- the positions of a part are in range
part_inside : (bits : ℕ) (layout : List (List ℕ)) (part : ℕ)
    → AllByRecursion (λ p. p < bits) (flat_map (λ positions. positions) layout)
    → AllByRecursion (λ p. p < bits) (get_or layout part [])
part_inside bits [] part all = tt
part_inside bits (positions ∷ layout) zero all =
    all_front bits positions (flat_map (λ others. others) layout) all
part_inside bits (positions ∷ layout) (suc part) all =
    part_inside bits layout part (all_back bits positions (flat_map (λ others. others) layout) all)

-- at a part of a layout codes are as far apart as under the part's mask
pub under_mask : (size bits : ℕ) (layout : List (List ℕ)) → IsLayout bits layout → bits ≤ size
    → (part : ℕ) (code other : List ℕ) → part < length layout
    → length code ≡ size → length other ≡ size
    → distance_under (mask_of size (get_or layout part [])) code other
    ≡ part_distance (get_or layout part []) code other
under_mask size bits layout lay room part code other less same also =
    let positions : List ℕ = get_or layout part [] in
    let all : List ℕ = flat_map (λ others. others) layout in
    let zeros : length (replicate {A = ℕ} size 0) ≡ size = length-replicate size 0 in
    let inside = part_inside bits layout part (recursion_from_All (λ p. p < bits) all lay.in_range) in
    let new : AreNew bits (replicate size 0) positions =
    (λ p below. omega (arith, zero_at size p, count_in_part layout part p, lay.once p below)) in
    let under = under_ones bits positions (replicate size 0) code other
    (omega arith) (omega arith) (omega arith) inside new in
    omega (arith, under_zeros size code other)
