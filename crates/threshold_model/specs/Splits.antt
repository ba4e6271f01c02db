-- Splits of units over parts: a threshold vector with one added to each entry.
use Rattle.std.specs.Prelude.{◌≡◌, ℕ, zero, suc, ◌+◌, ◌*◌, ◌<◌, ◌≤◌, ◌⊎◌, ℤ, pos, negsuc, List, [], ◌∷◌, length, slice_index}

-- the sum of a split
abbrev pub units_total : List ℕ → ℕ
units_total [] = 0
units_total (u ∷ us) = u + units_total us

-- the threshold that allows so many distances
abbrev pub threshold_of : ℕ → ℤ
threshold_of zero = negsuc 0
threshold_of (suc n) = pos n

-- the cost of a split over the parts from this one on
abbrev pub split_cost : (ℕ → ℕ → ℕ) → ℕ → List ℕ → ℕ
split_cost count part [] = 0
split_cost count part (u ∷ us) = count part u + split_cost count (part + 1) us

-- one split stands before another: it is less at the first place where they differ
abbrev pub StandsBefore : List ℕ → List ℕ → Type 0
StandsBefore [] [] = ⊥
StandsBefore [] (v ∷ vs) = Unit {0}
StandsBefore (u ∷ us) [] = ⊥
StandsBefore (u ∷ us) (v ∷ vs) = (u < v) ⊎ ((u ≡ v) × StandsBefore us vs)

-- a split of so many units over so many parts
pub record IsSplit (parts units : ℕ) (split : List ℕ) : Type 0 where
  pub size : length split ≡ parts
  pub sum : units_total split ≡ units

-- the first of the cheapest splits of so many units over the parts from this one on
pub record IsBest (count : ℕ → ℕ → ℕ) (part parts units : ℕ) (split : List ℕ) : Type 0 where
  pub splits : IsSplit parts units split
  pub none_cheaper : (us : List ℕ) → IsSplit parts units us
      → split_cost count part split ≤ split_cost count part us
  pub none_before : (us : List ℕ) → IsSplit parts units us
      → split_cost count part us ≡ split_cost count part split → StandsBefore us split → ⊥

-- the units of the first part
abbrev pub first_units : List ℕ → ℕ
first_units [] = 0
first_units (u ∷ us) = u

-- the first of the cheapest among the splits with at most so many units for the first part
pub record IsBestUpTo (count : ℕ → ℕ → ℕ) (part parts units most : ℕ)
    (split : List ℕ) : Type 0 where
  pub splits : IsSplit parts units split
  pub among : first_units split ≤ most
  pub none_cheaper : (us : List ℕ) → IsSplit parts units us → first_units us ≤ most
      → split_cost count part split ≤ split_cost count part us
  pub none_before : (us : List ℕ) → IsSplit parts units us → first_units us ≤ most
      → split_cost count part us ≡ split_cost count part split → StandsBefore us split → ⊥

-- a table of counts, one row of so many for each part
abbrev pub table_count : List ℕ → ℕ → ℕ → ℕ → ℕ
table_count counts width part units = slice_index counts (part * width + units)
