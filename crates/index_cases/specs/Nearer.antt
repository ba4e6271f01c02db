-- Of a list of distances none is among the first none, and a greater radius never reaches fewer.
use Rattle.std.proofs.Common.{◌≡◌, ℕ, ◌≤◌, cond, ltb, List, [], ◌∷◌, get_or, refl, arith}
use Rattle.std.proofs.lemmas.Bool.Decides.{nat_tests}
use Rattle.std.proofs.lemmas.List.Sums.{sum_by-cons}
use Rattle.threshold_model.specs.Vectors.{NeverFalls}
use Rattle.index_cases.specs.Listing.{nearer, nearer_at}

none_below : (d : ℕ) → cond {A = ℕ} (ltb d 0) 1 0 ≡ 0
none_below d = grind (arith, nat_tests)

one_rises : (d fewer more : ℕ) → fewer ≤ more → cond (ltb d fewer) 1 0 ≤ cond (ltb d more) 1 0
one_rises d fewer more le = grind (arith, nat_tests)

starts : (distances : List ℕ) → nearer distances 0 ≡ 0
starts [] = refl
starts (d ∷ rest) =
    omega (arith, none_below d, sum_by-cons (λ d. cond (ltb d 0) 1 0) d rest, starts rest)

rises : (distances : List ℕ) → NeverFalls (nearer distances)
rises [] fewer more le = omega arith
rises (d ∷ rest) fewer more le =
    omega (
      arith,
      one_rises d fewer more le,
      sum_by-cons (λ d. cond (ltb d fewer) 1 0) d rest,
      sum_by-cons (λ d. cond (ltb d more) 1 0) d rest,
      rises rest fewer more le,
    )

-- no distance is among the first none
pub nearer_starts : (distances : List (List ℕ)) (part : ℕ) → nearer_at distances part 0 ≡ 0
nearer_starts distances part = starts (get_or distances part [])

-- more units never reach fewer distances
pub nearer_rises : (distances : List (List ℕ)) (part : ℕ) → NeverFalls (nearer_at distances part)
nearer_rises distances part = rises (get_or distances part [])
