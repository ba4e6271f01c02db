-- The table of the allocation: for each part a row of picks, and the costs of the parts from one
-- on. No public clause cites this module.
use Rattle.std.specs.Prelude.{◌≡◌, ℕ, zero, suc, ◌+◌, ◌-◌, ◌*◌, ◌^◌, ◌<◌, ◌≤◌, List, [], ◌∷◌, length, take, drop, slice_index}
use Rattle.threshold_model.specs.Splits.{split_cost, IsBest}

-- so many rows of one width, one behind another
abbrev pub pick_rows : ℕ → ℕ → List ℕ → List (List ℕ)
pick_rows width zero picks = []
pick_rows width (suc parts) picks = take width picks ∷ pick_rows width parts (drop width picks)

-- the split that the rows of picks lead to
abbrev pub follow : List (List ℕ) → ℕ → List ℕ
follow [] units = []
follow (row ∷ rows) units = slice_index row units ∷ follow rows (units - slice_index row units)

-- the first of the places up to the last one at which a function is least
pub record IsFirstLeast (value : ℕ → ℕ) (last place : ℕ) : Type 0 where
  pub within : place ≤ last
  pub least : (other : ℕ) → other ≤ last → value place ≤ value other
  pub first : (other : ℕ) → other < place → value place < value other

-- the counts of a part, asked for each number of units below the width
pub record AreAsked (count : ℕ → ℕ → ℕ) (part width : ℕ) (asked : List ℕ) : Type 0 where
  pub counts : (units : ℕ) → units < width → slice_index asked units ≡ count part units
  pub small : (units : ℕ) → units < width → slice_index asked units ≤ 2 ^ 32 - 1

-- counts that never fall as the units rise
abbrev pub NeverFallIn : List ℕ → Type 0
NeverFallIn asked =
    (fewer more : ℕ) → fewer ≤ more → more < length asked → slice_index asked fewer
    ≤ slice_index asked more

-- one part's count at its units, and the cost of the rest at the units that are left
abbrev pub joint_cost : List ℕ → List ℕ → ℕ → ℕ → ℕ
joint_cost asked costs units pick = slice_index asked pick + slice_index costs (units - pick)

-- a row of picks, and the costs with this part, from so many units on
pub record IsRowFrom (from width : ℕ) (asked before costs picks : List ℕ) : Type 0 where
  pub picked : (units : ℕ) → from ≤ units → units < width
      → IsFirstLeast (joint_cost asked before units) units (slice_index picks units)
  pub added : (units : ℕ) → from ≤ units → units < width
      → slice_index costs units ≡ joint_cost asked before units (slice_index picks units)
  pub kept : (units : ℕ) → units < from → slice_index costs units ≡ slice_index before units

-- the row of a part that takes all units, and its costs
pub record IsLastRow (width : ℕ) (asked costs picks : List ℕ) : Type 0 where
  pub picked : (units : ℕ) → units < width → slice_index picks units ≡ units
  pub asked_is : (units : ℕ) → units < width → slice_index costs units ≡ slice_index asked units

-- the rows and the costs of the parts from this one on are solved for all units below the width
pub record IsSolved (count : ℕ → ℕ → ℕ) (part : ℕ) (rows : List (List ℕ)) (costs : List ℕ)
    (width : ℕ) : Type 0 where
  pub best : (units : ℕ) → units < width → IsBest count part (length rows) units (follow rows units)
  pub cost : (units : ℕ) → units < width
      → slice_index costs units ≡ split_cost count part (follow rows units)
  pub bound : (units : ℕ) → units < width → slice_index costs units ≤ length rows * (2 ^ 32 - 1)
