-- What a question costs on the rows of a shard: its bound, its plan, its source's units of work.
use Rattle.std.specs.Prelude.{◌≡◌, ℕ, zero, suc, ◌+◌, ◌*◌, ◌^◌, ℤ, Option, Some, None}
use Rattle.std.specs.Prelude.{List, [], ◌∷◌, length, sum_by}
use Rattle.hamming_model.specs.declared.hit.Hit.{Hit}
use Rattle.hamming_model.specs.Scan.{Ask, Range, Near}
use Rattle.threshold_model.specs.Vectors.{IsChoice, IsLeast, row_counts}

-- the distance of the last hit of a list
abbrev pub last_distance : List Hit → Option ℕ
last_distance [] = None
last_distance (hit ∷ []) = Some hit.dist
last_distance (hit ∷ other ∷ hits) = last_distance (other ∷ hits)

-- a sum of earlier numbers and of one number more
pub record IsSumWith (Earlier One : ℕ → Type 0) (sum : ℕ) : Type 0 where
  pub earlier : ℕ
  pub one : ℕ
  pub is_earlier : Earlier earlier
  pub is_one : One one
  pub all : sum ≡ earlier + one

-- the least costs at the radii below so many, added up
abbrev pub IsLeastUpTo : (ℕ → ℕ → ℕ) → ℕ → ℕ → ℕ → Type 0
IsLeastUpTo counts parts zero sum = sum ≡ 0
IsLeastUpTo counts parts (suc radius) sum =
    IsSumWith (IsLeastUpTo counts parts radius) (IsLeast counts radius parts) sum

-- the most postings that a question may read, where the last hit given stands at this distance: of
-- a range the least cost at its radius, of a near query those at all radii up to it, added up
abbrev pub IsBoundOf : Ask → List (ℕ × List ℕ) → List (List ℕ) → Option ℕ → ℕ → Type 0
IsBoundOf (Range tau code) rows layout last bound =
    IsLeast (row_counts rows layout code) tau (length layout) bound
IsBoundOf (Near number code) rows layout None bound = bound ≡ 0
IsBoundOf (Near number code) rows layout (Some farthest) bound =
    IsLeastUpTo (row_counts rows layout code) (length layout) (farthest + 1) bound

-- the first of the cheapest threshold vectors at a radius, and its cost
pub record IsPlanAt (counts : ℕ → ℕ → ℕ) (radius parts : ℕ) (thresholds : List ℤ) (cost : ℕ)
    : Type 0 where
  pub vector : IsChoice counts radius parts thresholds
  pub least : IsLeast counts radius parts cost

-- the plan of a question, where the last hit given stands at this distance: of a range that at its
-- radius, of a near query that at this distance, or at 0 where there is no such hit
abbrev pub IsPlanOf : Ask → List (ℕ × List ℕ) → List (List ℕ) → Option ℕ → List ℤ → ℕ → Type 0
IsPlanOf (Range tau code) rows layout last =
    IsPlanAt (row_counts rows layout code) tau (length layout)
IsPlanOf (Near number code) rows layout None =
    IsPlanAt (row_counts rows layout code) 0 (length layout)
IsPlanOf (Near number code) rows layout (Some farthest) =
    IsPlanAt (row_counts rows layout code) farthest (length layout)

-- how many values all parts of a layout have
abbrev pub values_of_parts : List (List ℕ) → ℕ
values_of_parts layout = sum_by (λ part. 2 ^ length part) layout

-- the units of work at one radius: each value of each part, each posting of a cheapest vector read
-- and moved, and one
pub record IsUnitsAt (counts : ℕ → ℕ → ℕ) (layout : List (List ℕ)) (radius units : ℕ) : Type 0 where
  pub least : ℕ
  pub is_least : IsLeast counts radius (length layout) least
  pub units_are : units ≡ values_of_parts layout + 2 * least + 1

-- the units of work at the radii below so many, added up
abbrev pub IsUnitsUpTo : (ℕ → ℕ → ℕ) → List (List ℕ) → ℕ → ℕ → Type 0
IsUnitsUpTo counts layout zero units = units ≡ 0
IsUnitsUpTo counts layout (suc radius) units =
    IsSumWith (IsUnitsUpTo counts layout radius) (IsUnitsAt counts layout radius) units

-- the units of work of a question on codes of so many bits: of a range those at its radius, of a
-- near query those at all radii, added up
abbrev pub IsUnitsOf : ℕ → Ask → List (ℕ × List ℕ) → List (List ℕ) → ℕ → Type 0
IsUnitsOf bits (Range tau code) rows layout units =
    IsUnitsAt (row_counts rows layout code) layout tau units
IsUnitsOf bits (Near number code) rows layout units =
    IsUnitsUpTo (row_counts rows layout code) layout (bits + 1) units
