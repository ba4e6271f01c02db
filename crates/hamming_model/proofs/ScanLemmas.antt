-- A scan has each row near enough, as often as it stands among the rows.
use Rattle.std.proofs.Common.{◌≡◌, ℕ, ◌+◌, List, [], ◌∷◌, refl, sym, ◌∙◌, arith, true, false, Bool, cond}
use Rattle.std.specs.Prelude.{◌&&◌, nat_le, count_by}
use Rattle.std.specs.List.Sorted.{IsSorted}
use Rattle.std.proofs.lemmas.List.Sums.{sum_by-cons}
use Rattle.hamming_model.specs.declared.hit.Hit.{Hit}
use Rattle.hamming_model.specs.Codes.{distance}
use Rattle.hamming_model.specs.Scan.{hit_cmp, hit_of, hits_within, scan}
use Rattle.hamming_model.specs.Order.{is_same_hit, occurrences, is_hit_row}
use Rattle.hamming_model.proofs.OrderLemmas.{sum_of_in_order, in_order_sorted}

-- 1 where the test passes
abbrev one_if : Bool → ℕ
one_if test = cond test 1 0

both_tests : (a b : Bool) → one_if (a && b) ≡ cond b (one_if a) 0
both_tests true true = refl
both_tests true false = refl
both_tests false true = refl
both_tests false false = refl

-- a hit is among the near rows as often as such a row is among the rows
pub hits_counted : (rows : List (ℕ × List ℕ)) (query : List ℕ) (radius : ℕ) (hit : Hit)
    → occurrences hit (hits_within rows query radius) ≡ count_by (is_hit_row hit query radius) rows
hits_counted [] query radius hit = refl
hits_counted (row ∷ rows) query radius hit =
    sym (step (hits_counted rows query radius hit) (nat_le (distance row.1 query) radius) (is_hit_row hit query radius row)
    (both_tests (is_same_hit hit (hit_of query row)) (nat_le (distance row.1 query) radius)))
    ∙ sym (sum_by-cons (λ other. one_if (is_hit_row hit query radius other)) row rows)
  where
    step : occurrences hit (hits_within rows query radius) ≡ count_by (is_hit_row hit query radius) rows → (near found : Bool)
        → one_if found ≡ cond near (one_if (is_same_hit hit (hit_of query row))) 0
        → one_if found + count_by (is_hit_row hit query radius) rows
        ≡ occurrences hit (cond near (hit_of query row ∷ hits_within rows query radius) (hits_within rows query radius))
    step rest true found e = omega (arith, sum_by-cons (λ other. one_if (is_same_hit hit other)) (hit_of query row) (hits_within rows query radius))
    step rest false found e = omega arith

-- a hit is in a scan as often as such a row is among the rows
pub scan_counted : (rows : List (ℕ × List ℕ)) (query : List ℕ) (radius : ℕ) (hit : Hit)
    → occurrences hit (scan rows query radius) ≡ count_by (is_hit_row hit query radius) rows
scan_counted rows query radius hit = sum_of_in_order _ (hits_within rows query radius) ∙ hits_counted rows query radius hit

-- a scan is sorted
pub scan_sorted : (rows : List (ℕ × List ℕ)) (query : List ℕ) (radius : ℕ) → IsSorted hit_cmp (scan rows query radius)
scan_sorted rows query radius = in_order_sorted (hits_within rows query radius)
