-- The least over the list of all vectors is the least cost of a vector.
use Rattle.std.proofs.Common.{◌≡◌, ℕ, zero, suc, ◌+◌, ◌-◌, ◌<◌, ◌≤◌, min, inl, inr, List, [], ◌∷◌, length, map, refl, ◌∙◌, ap, arith, subst}
use Rattle.std.specs.List.{range_with_len}
use Rattle.std.proofs.lemmas.Bool.{cases_lt}
use Rattle.threshold_model.specs.Vectors.{cost, units_of, IsVector, IsLeast}
use Rattle.threshold_model.specs.Splits.{threshold_of, units_total, split_cost, IsSplit}
use Rattle.exchange_model.proofs.AmongLemmas.{Stands, stands_map, stands_from_map, stands_flat_map, stands_from_flat_map, stands_range, in_range, some_stands}
use Rattle.threshold_model.proofs.SplitLemmas.{units_all, split_of_vector, vector_of_split, cost_units}
use Rattle.exchange_model.specs.Least.{all_splits, all_vectors, least_in, least_cost}

-- the list has every split
all_there : (parts units : ℕ) (us : List ℕ) → length us ≡ parts → units_total us ≡ units → Stands us (all_splits parts units)
all_there zero zero [] size sum = inl refl
all_there zero (suc n) [] size sum = absurd (omega (arith, sum))
all_there zero units (u ∷ us) size sum = absurd (omega (arith, size))
all_there (suc parts) units [] size sum = absurd (omega (arith, size))
all_there (suc parts) units (u ∷ us) size sum =
    stands_flat_map (λ first. map (λ rest. first ∷ rest) (all_splits parts (units - first))) u (u ∷ us) (range_with_len 0 (units + 1))
    (stands_range u 0 (units + 1) (omega arith) (omega (arith, sum)))
    (stands_map (λ rest. u ∷ rest) us (all_splits parts (units - u)) (all_there parts (units - u) us (omega (arith, size)) (omega (arith, sum))))

-- and nothing else
all_splits_are : (parts units : ℕ) (us : List ℕ) → Stands us (all_splits parts units) → IsSplit parts units us
all_splits_are zero zero us (inl same) = rw (← same) (record { size = refl; sum = refl })
all_splits_are zero zero us (inr h) = absurd h
all_splits_are zero (suc n) us h = absurd h
all_splits_are (suc parts) units us h =
    let there = stands_from_flat_map (λ first. map (λ rest. first ∷ rest) (all_splits parts (units - first))) us (range_with_len 0 (units + 1)) h in
    let rest = stands_from_map (λ rest. there.0 ∷ rest) us (all_splits parts (units - there.0)) there.2 in
    let below = in_range there.0 0 (units + 1) there.1 in
    let split = all_splits_are parts (units - there.0) rest.0 rest.1 in
    rw (← rest.2) (record { size = (let h = split.size in omega arith); sum = (let h = split.sum in omega arith) })

-- the least of a list is one of it, and none is less
least_below : (n : ℕ) (ns : List ℕ) → Stands n ns → least_in ns ≤ n
least_below n [] h = absurd h
least_below n (m ∷ []) (inl same) = omega arith
least_below n (m ∷ []) (inr h) = absurd h
least_below n (m ∷ (k ∷ ns)) (inl same) = omega arith
least_below n (m ∷ (k ∷ ns)) (inr rest) = let h = least_below n (k ∷ ns) rest in omega arith

least_stands : (ns : List ℕ) → 0 < length ns → Stands (least_in ns) ns
least_stands [] some = absurd (omega (arith, some))
least_stands (n ∷ []) some = inl refl
least_stands (n ∷ (m ∷ ns)) some = elim (cases_lt n (least_in (m ∷ ns))) [
  | inl less ↦ inl (omega arith)
  | inr more ↦ inr (let same : least_in (m ∷ ns) ≡ min n (least_in (m ∷ ns)) = omega arith in
      subst (λ z. Stands z (m ∷ ns)) same (least_stands (m ∷ ns) (omega arith)))
]

pub cost_split : (count : ℕ → ℕ → ℕ) (us : List ℕ) → cost count (map threshold_of us) ≡ split_cost count 0 us
cost_split count us = cost_units count 0 (map threshold_of us) ∙ ap (split_cost count 0) (units_all us)

-- the split that gives the first part all
one_split : ℕ → ℕ → List ℕ
one_split zero units = []
one_split (suc parts) units = units ∷ one_split parts 0

one_size : (parts units : ℕ) → length (one_split parts units) ≡ parts
unfolding one_split
one_size zero units = refl
one_size (suc parts) units = let h = one_size parts 0 in omega arith

none_sum : (parts : ℕ) → units_total (one_split parts 0) ≡ 0
unfolding one_split
none_sum zero = refl
none_sum (suc parts) = let h = none_sum parts in omega arith

one_sum : (parts units : ℕ) → 0 < parts → units_total (one_split parts units) ≡ units
unfolding one_split
one_sum zero units some = absurd (omega (arith, some))
one_sum (suc parts) units some = let h = none_sum parts in omega arith

-- the least over all vectors is the least cost
pub least_cost_is : (count : ℕ → ℕ → ℕ) (tau parts : ℕ) → 0 < parts → IsLeast count tau parts (least_cost count tau parts)
unfolding least_cost
least_cost_is count tau parts some =
    let costs = map (cost count) (all_vectors tau parts) in
    let first = all_there parts (tau + 1) (one_split parts (tau + 1)) (one_size parts (tau + 1)) (one_sum parts (tau + 1) some) in
    let there = stands_map (cost count) (map threshold_of (one_split parts (tau + 1))) (all_vectors tau parts)
    (stands_map (λ us. map threshold_of us) (one_split parts (tau + 1)) (all_splits parts (tau + 1)) first) in
    let least = stands_from_map (cost count) (least_in costs) (all_vectors tau parts) (least_stands costs (some_stands _ costs there)) in
    let split = stands_from_map (λ us. map threshold_of us) least.0 (all_splits parts (tau + 1)) least.1 in
    record {
      attained = (
        least.0,
        subst (IsVector tau parts) split.2 (vector_of_split tau parts split.0 (all_splits_are parts (tau + 1) split.0 split.1)),
        least.2,
      );
      none_cheaper = λ ts vector.
          let is_split = split_of_vector tau parts ts vector in
          let stands = all_there parts (tau + 1) (map units_of ts) is_split.size is_split.sum in
          let at = stands_map (cost count) (map threshold_of (map units_of ts)) (all_vectors tau parts)
          (stands_map (λ us. map threshold_of us) (map units_of ts) (all_splits parts (tau + 1)) stands) in
          let same = cost_split count (map units_of ts) in
          let own = cost_units count 0 ts in
          let h = least_below (cost count (map threshold_of (map units_of ts))) costs at in
          omega arith;
    }
