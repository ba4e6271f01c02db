-- The scan of some rows ascends, within its radius, and has at most one hit for each row.
use Rattle.std.proofs.Common.{◌≡◌, ℕ, suc, ◌≤◌, Bool, true, false, cond, List, [], ◌∷◌, length, map, filter, refl, arith}
use Rattle.std.specs.Prelude.{All, nat_le}
use Rattle.std.specs.List.{AllByRecursion}
use Rattle.std.proofs.lemmas.Bool.{leb-true}
use Rattle.std.proofs.lemmas.List.{length-map}
use Rattle.std.proofs.lemmas.List.Elements.{All-from_recursion}
use Rattle.std.proofs.lemmas.List.Sorted.{All-permutation}
use Rattle.hamming_model.specs.declared.hit.Hit.{Hit}
use Rattle.hamming_model.specs.Scan.{hit_of, hits_within, scan}
use Rattle.hamming_model.proofs.OrderLemmas.{in_order_permutation}
use Rattle.search_model.proofs.HitLemmas.{order_size}

near_only : (radius : ℕ) (hits : List Hit)
    → AllByRecursion (λ hit. hit.dist ≤ radius) (filter (λ hit. nat_le hit.dist radius) hits)
near_only radius [] = tt
near_only radius (hit ∷ hits) = go (near_only radius hits) (nat_le hit.dist radius) refl
  where
    rest : List Hit
    rest = filter (λ hit. nat_le hit.dist radius) hits

    go : AllByRecursion (λ hit. hit.dist ≤ radius) rest → (near : Bool)
        → nat_le hit.dist radius ≡ near
        → AllByRecursion (λ hit. hit.dist ≤ radius) (cond near (hit ∷ rest) rest)
    go later true e = (leb-true hit.dist radius e, later)
    go later false e = later

few_near : (radius : ℕ) (hits : List Hit)
    → length (filter (λ hit. nat_le hit.dist radius) hits) ≤ length hits
few_near radius [] = omega arith
few_near radius (hit ∷ hits) = go (few_near radius hits) (nat_le hit.dist radius)
  where
    rest : List Hit
    rest = filter (λ hit. nat_le hit.dist radius) hits

    go : length rest ≤ length hits → (near : Bool)
        → length (cond near (hit ∷ rest) rest) ≤ suc (length hits)
    go few true = omega arith
    go few false = omega arith

-- no hit of a scan is farther than its radius, nor than what that is at most
pub scan_near : (rows : List (ℕ × List ℕ)) (query : List ℕ) (radius most : ℕ) → radius ≤ most
    → All (λ hit. hit.dist ≤ most) (scan rows query radius)
scan_near rows query radius most le =
    All-permutation (λ (hit : Hit). hit.dist ≤ most) (hits_within rows query radius)
    (scan rows query radius)
    (in_order_permutation (hits_within rows query radius))
    (All-from_recursion (λ (hit : Hit). hit.dist ≤ most) (hits_within rows query radius)
    (farther (hits_within rows query radius) (near_only radius (map (hit_of query) rows))))
  where
    farther : (hits : List Hit) → AllByRecursion (λ hit. hit.dist ≤ radius) hits
        → AllByRecursion (λ hit. hit.dist ≤ most) hits
    farther [] all = tt
    farther (hit ∷ hits) all = (omega (arith, all.0, le), farther hits all.1)

-- a scan has at most as many hits as there are rows
pub scan_few : (rows : List (ℕ × List ℕ)) (query : List ℕ) (radius : ℕ)
    → length (scan rows query radius) ≤ length rows
scan_few rows query radius =
    omega (
      arith,
      order_size (hits_within rows query radius),
      few_near radius
          (map (hit_of query) rows),
      length-map rows (hit_of query),
    )
