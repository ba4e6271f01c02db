-- The least cost of a threshold vector as a function: the least over the list of all vectors.
use Rattle.std.specs.Prelude.{◌≡◌, ℕ, zero, suc, ◌+◌, ◌-◌, ◌≤◌, min, ℤ, List, [], ◌∷◌, map}
use Rattle.std.specs.List.{flat_map, range_with_len}
use Rattle.threshold_model.specs.Vectors.{cost}
use Rattle.threshold_model.specs.Splits.{IsSplit, split_cost, threshold_of}

-- all splits of so many units over so many parts
abbrev pub all_splits : ℕ → ℕ → List (List ℕ)
all_splits zero zero = [] ∷ []
all_splits zero (suc units) = []
all_splits (suc parts) units =
    flat_map (λ first. map (λ rest. first ∷ rest) (all_splits parts (units - first)))
    (range_with_len 0 (units + 1))

-- all threshold vectors for a radius
abbrev pub all_vectors : ℕ → ℕ → List (List ℤ)
all_vectors tau parts = map (λ split. map threshold_of split) (all_splits parts (tau + 1))

-- the least of the numbers of a list
abbrev pub least_in : List ℕ → ℕ
least_in [] = 0
least_in (n ∷ []) = n
least_in (n ∷ (m ∷ ns)) = min n (least_in (m ∷ ns))

-- the least cost of a threshold vector
unfoldable pub least_cost : (ℕ → ℕ → ℕ) → ℕ → ℕ → ℕ
least_cost count tau parts = least_in (map (cost count) (all_vectors tau parts))

-- the least cost of a split of just so many units over so many parts from this one on
pub record IsLeastSum (count : ℕ → ℕ → ℕ) (part parts units least : ℕ) : Type 0 where
  pub best : List ℕ
  pub is_split : IsSplit parts units best
  pub attained : split_cost count part best ≡ least
  pub none_cheaper : (us : List ℕ) → IsSplit parts units us → least ≤ split_cost count part us
