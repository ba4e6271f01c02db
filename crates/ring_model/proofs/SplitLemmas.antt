-- Hits in order are those up to a radius, in order, and then those beyond.
use Rattle.std.proofs.Common.{◌≡◌, ℕ, ◌+◌, ◌<◌, ◌≤◌, ◌==◌, nat_lt, Bool, true, false, cond, List, [], ◌∷◌, ◌++◌}
use Rattle.std.proofs.Common.{length, map, filter, sum_by, refl, ap, ◌∙◌, arith}
use Rattle.std.specs.Prelude.{not, nat_le}
use Rattle.std.specs.List.{AllByRecursion}
use Rattle.std.specs.Ordering.{is_gt}
use Rattle.std.proofs.lemmas.Bool.{lt-ltb, leb-true, ltb-true}
use Rattle.std.proofs.lemmas.Bool.Decides.{nat_tests}
use Rattle.std.proofs.lemmas.List.Sums.{sum_by-append}
use Rattle.std.proofs.lemmas.List.Filters.{sum_by-filter_both}
use Rattle.hamming_model.specs.declared.hit.Hit.{Hit}
use Rattle.hamming_model.specs.Codes.{distance, difference}
use Rattle.hamming_model.specs.Scan.{hit_of, hit_cmp, hits_within, placed, in_order, scan}
use Rattle.hamming_model.specs.Order.{is_same_hit}
use Rattle.hamming_model.specs.Stored.{AreCodeRows}
use Rattle.hamming_model.proofs.OrderLemmas.{IsFirst, Ascends, ascends_in_order, sum_of_in_order, one_order}
use Rattle.ring_model.specs.Rings.{hits_nearer, hits_from}

-- what is true of each hit is true of each hit in order
all_placed : (P : Hit → Type 0) (hit : Hit) (hits : List Hit) → P hit → AllByRecursion P hits → AllByRecursion P (placed hit hits)
all_placed P hit [] here all = (here, tt)
all_placed P hit (other ∷ hits) here all = go (is_gt (hit_cmp hit other)) (all_placed P hit hits here all.1)
  where
    go : (b : Bool) → AllByRecursion P (placed hit hits) → AllByRecursion P (cond b (other ∷ placed hit hits) (hit ∷ other ∷ hits))
    go true rest = (all.0, rest)
    go false rest = (here, all)

pub all_in_order : (P : Hit → Type 0) (hits : List Hit) → AllByRecursion P hits → AllByRecursion P (in_order hits)
all_in_order P [] all = tt
all_in_order P (hit ∷ hits) all = all_placed P hit (in_order hits) all.0 (all_in_order P hits all.1)

pub all_kept : (P : Hit → Type 0) (test : Hit → Bool) (hits : List Hit) → ((hit : Hit) → test hit ≡ true → P hit)
    → AllByRecursion P (filter test hits)
all_kept P test [] each = tt
all_kept P test (hit ∷ hits) each = go (test hit) refl (all_kept P test hits each)
  where
    go : (b : Bool) → test hit ≡ b → AllByRecursion P (filter test hits) → AllByRecursion P (cond b (hit ∷ filter test hits) (filter test hits))
    go true e rest = (each hit e, rest)
    go false e rest = rest

-- a nearer hit isn't after a farther one
nearer_first : (a b : Hit) → a.dist < b.dist → is_gt (hit_cmp a b) ≡ false
nearer_first a b less = rw (lt-ltb a.dist b.dist less) refl

first_of_both : (hit : Hit) (xs ys : List Hit) → IsFirst hit xs → IsFirst hit ys → IsFirst hit (xs ++ ys)
first_of_both hit [] ys a b = b
first_of_both hit (x ∷ xs) ys a b = (a.0, first_of_both hit xs ys a.1 b)

first_of_far : (hit : Hit) (radius : ℕ) (ys : List Hit) → hit.dist < radius → AllByRecursion (λ other. radius ≤ other.dist) ys → IsFirst hit ys
first_of_far hit radius [] near far = tt
first_of_far hit radius (y ∷ ys) near far = (nearer_first hit y (omega (arith, far.0)), first_of_far hit radius ys near far.1)

pub ascends_joined : (radius : ℕ) (xs ys : List Hit) → AllByRecursion (λ hit. hit.dist < radius) xs → AllByRecursion (λ hit. radius ≤ hit.dist) ys
    → Ascends xs → Ascends ys → Ascends (xs ++ ys)
ascends_joined radius [] ys near far up vp = vp
ascends_joined radius (x ∷ xs) ys near far up vp =
    (first_of_both x xs ys up.0 (first_of_far x radius ys near.0 far), ascends_joined radius xs ys near.1 far up.1 vp)

far_or_near : (d radius : ℕ) → nat_le radius d ≡ not (nat_lt d radius)
far_or_near d radius = grind (arith, nat_tests)

-- hits in order, split at a radius
pub split_order : (hits : List Hit) (radius : ℕ) → in_order hits ≡ in_order (hits_nearer hits radius) ++ in_order (hits_from hits radius)
split_order hits radius =
    one_order (in_order hits) (in_order (hits_nearer hits radius) ++ in_order (hits_from hits radius)) (ascends_in_order hits)
    (ascends_joined radius (in_order (hits_nearer hits radius)) (in_order (hits_from hits radius))
    (all_in_order (λ hit. hit.dist < radius) (hits_nearer hits radius)
    (all_kept (λ hit. hit.dist < radius) (λ hit. nat_lt hit.dist radius) hits (λ hit e. ltb-true hit.dist radius e)))
    (all_in_order (λ hit. radius ≤ hit.dist) (hits_from hits radius)
    (all_kept (λ hit. radius ≤ hit.dist) (λ hit. nat_le radius hit.dist) hits (λ hit e. leb-true radius hit.dist e)))
    (ascends_in_order (hits_nearer hits radius)) (ascends_in_order (hits_from hits radius)))
    (λ hit. sums (λ other. cond (is_same_hit hit other) 1 0))
  where
    sums : (f : Hit → ℕ) → sum_by f (in_order hits) ≡ sum_by f (in_order (hits_nearer hits radius) ++ in_order (hits_from hits radius))
    sums f =
        let joined = sum_by-append f (in_order (hits_nearer hits radius)) (in_order (hits_from hits radius)) in
        let whole = sum_of_in_order f hits in
        let near = sum_of_in_order f (hits_nearer hits radius) in
        let far = sum_of_in_order f (hits_from hits radius) in
        let both = sum_by-filter_both (λ (hit : Hit). nat_lt hit.dist radius) (λ (hit : Hit). nat_le radius hit.dist)
        (λ hit. far_or_near hit.dist radius) f hits in
        omega arith

one_apart : (a b : ℕ) → difference a b ≤ 1
one_apart a b = go (a == b)
  where
    go : (same : Bool) → cond same 0 1 ≤ 1
    go true = omega arith
    go false = omega arith

pub distance_within : (code query : List ℕ) → distance code query ≤ length code
distance_within [] query = omega arith
distance_within (a ∷ code) [] = omega arith
distance_within (a ∷ code) (b ∷ query) = omega (arith, one_apart a b, distance_within code query)

-- all rows are within the number of bits
pub all_within : (bits : ℕ) (rows : List (ℕ × List ℕ)) (query : List ℕ) → AreCodeRows bits rows
    → hits_within rows query bits ≡ map (hit_of query) rows
all_within bits [] query codes = refl
all_within bits (row ∷ rows) query codes =
    let near : nat_le (distance row.1 query) bits ≡ true = (let le = distance_within row.1 query in let size = codes.0.size in grind (arith, nat_tests)) in
    ap (λ b. cond b (hit_of query row ∷ hits_within rows query bits) (hits_within rows query bits)) near
    ∙ ap (λ hits. hit_of query row ∷ hits) (all_within bits rows query codes.1)

pub scan_all : (bits : ℕ) (rows : List (ℕ × List ℕ)) (query : List ℕ) → AreCodeRows bits rows
    → scan rows query bits ≡ in_order (map (hit_of query) rows)
scan_all bits rows query codes = ap in_order (all_within bits rows query codes)

pub all_nearer : (bits : ℕ) (rows : List (ℕ × List ℕ)) (query : List ℕ) → AreCodeRows bits rows
    → hits_nearer (map (hit_of query) rows) (bits + 1) ≡ map (hit_of query) rows
all_nearer bits [] query codes = refl
all_nearer bits (row ∷ rows) query codes =
    let near : nat_lt (distance row.1 query) (bits + 1) ≡ true =
    (let le = distance_within row.1 query in let size = codes.0.size in grind (arith, nat_tests)) in
    ap (λ b. cond b (hit_of query row ∷ hits_nearer (map (hit_of query) rows) (bits + 1)) (hits_nearer (map (hit_of query) rows) (bits + 1))) near
    ∙ ap (λ hits. hit_of query row ∷ hits) (all_nearer bits rows query codes.1)
