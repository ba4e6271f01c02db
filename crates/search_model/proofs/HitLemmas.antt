-- Hits in order: the list depends only on how often each hit stands, and its distances don't fall.
use Rattle.std.proofs.Common.{◌≡◌, ℕ, zero, suc, ◌<◌, ◌≤◌, ◌==◌, nat_lt, Bool, true, false, cond, List, [], ◌∷◌, ◌++◌, length, get_or, sum_by, refl, sym, ◌∙◌, arith}
use Rattle.std.specs.List.Sorted.{IsPermutation}
use Rattle.std.specs.declared.cmp.Ordering.TheVariants.{Less, Equal, Greater}
use Rattle.std.specs.Ordering.{nat_cmp, ordering_then, is_gt}
use Rattle.std.proofs.lemmas.Bool.{ltb-true, eqb-true}
use Rattle.std.proofs.lemmas.List.Sums.{sum_by-append}
use Rattle.std.proofs.lemmas.List.Sorted.{sum_by-IsPermutation}
use Rattle.hamming_model.specs.declared.hit.Hit.{Hit}
use Rattle.hamming_model.specs.Scan.{hit_cmp, in_order}
use Rattle.hamming_model.specs.Order.{is_same_hit}
use Rattle.hamming_model.proofs.OrderLemmas.{IsFirst, Ascends, ascends_in_order, sum_of_in_order, same_in_order}
use Rattle.search_model.specs.Reading.{HasSame}
use Rattle.search_model.proofs.SameLemmas.{sum_ones}

-- equal sums give one list in order
pub order_of_same : (xs ys : List Hit) → HasSame xs ys → in_order xs ≡ in_order ys
order_of_same xs ys same = same_in_order xs ys (λ hit. same.sums (λ other. cond (is_same_hit hit other) 1 0))

-- permuted hits before the same rest
pub order_of_permuted : (xs ys rest : List Hit) → IsPermutation xs ys → in_order (xs ++ rest) ≡ in_order (ys ++ rest)
order_of_permuted xs ys rest moved = order_of_same (xs ++ rest) (ys ++ rest) (record { sums = sums })
  where
    sums : (f : Hit → ℕ) → sum_by f (xs ++ rest) ≡ sum_by f (ys ++ rest)
    sums f = omega (arith, sum_by-append f xs rest, sum_by-append f ys rest, sum_by-IsPermutation f xs ys moved)

-- two lists joined either way
pub order_of_turned : (xs ys : List Hit) → in_order (xs ++ ys) ≡ in_order (ys ++ xs)
order_of_turned xs ys = order_of_same (xs ++ ys) (ys ++ xs) (record { sums = sums })
  where
    sums : (f : Hit → ℕ) → sum_by f (xs ++ ys) ≡ sum_by f (ys ++ xs)
    sums f = omega (arith, sum_by-append f xs ys, sum_by-append f ys xs)

-- the list in order is as long
pub order_size : (xs : List Hit) → length (in_order xs) ≡ length xs
order_size xs = sym (sum_ones (in_order xs)) ∙ sum_of_in_order (λ hit. 1) xs ∙ sum_ones xs

nearer : (a b : Hit) → is_gt (hit_cmp a b) ≡ false → a.dist ≤ b.dist
nearer a b h = go (nat_lt a.dist b.dist) (a.dist == b.dist) refl refl h
  where
    go : (less same : Bool) → nat_lt a.dist b.dist ≡ less → (a.dist == b.dist) ≡ same
        → is_gt (ordering_then (cond less Less (cond same Equal Greater)) (nat_cmp a.key b.key)) ≡ false → a.dist ≤ b.dist
    go true same e s h = let l = ltb-true a.dist b.dist e in omega arith
    go false true e s h = let l = eqb-true a.dist b.dist s in omega arith
    go false false e s h = cc

first_nearest : (hit default : Hit) (hits : List Hit) (place : ℕ) → IsFirst hit hits → place < length hits → hit.dist ≤ (get_or hits place default).dist
first_nearest hit default [] place first within = absurd (omega arith)
first_nearest hit default (other ∷ hits) zero first within = nearer hit other first.0
first_nearest hit default (other ∷ hits) (suc place) first within = first_nearest hit default hits place first.1 (omega arith)

distances_rise : (hits : List Hit) (first second : ℕ) (default : Hit) → Ascends hits → first ≤ second → second < length hits
    → (get_or hits first default).dist ≤ (get_or hits second default).dist
distances_rise [] first second default up before within = absurd (omega arith)
distances_rise (hit ∷ hits) zero zero default up before within = omega arith
distances_rise (hit ∷ hits) zero (suc second) default up before within = first_nearest hit default hits second up.0 (omega arith)
distances_rise (hit ∷ hits) (suc first) zero default up before within = absurd (omega arith)
distances_rise (hit ∷ hits) (suc first) (suc second) default up before within = distances_rise hits first second default up.1 (omega arith) (omega arith)

-- the distances of a list in order don't fall
pub order_rises : (xs : List Hit) (first second : ℕ) (default : Hit) → first ≤ second → second < length xs
    → (get_or (in_order xs) first default).dist ≤ (get_or (in_order xs) second default).dist
order_rises xs first second default before within =
    let size = order_size xs in
    distances_rise (in_order xs) first second default (ascends_in_order xs) before (omega arith)
