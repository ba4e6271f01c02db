-- Rows of counts, and the least sums of one number of each. No public clause cites this module.
use Rattle.std.specs.Prelude.{◌≡◌, ℕ, ◌+◌, ◌-◌, ◌<◌, ◌≤◌, ◌==◌, Bool, List, [], length, map, slice_index, slice_index_or}
use Rattle.std.specs.Global.{Vec}
use Rattle.ball_walk.specs.Balls.{value_distance}
use Rattle.exchange_model.specs.Least.{IsLeastSum}
use Rattle.exchange_model.specs.declared.limits.TheConstants.{SEARCH_ROWS_MOST}

-- whether a number is just near enough to a value to be counted at so many units
abbrev pub is_last_at : ℕ → ℕ → ℕ → Bool
is_last_at value units other = (value_distance other value + 1 == units)

-- a row of so many counts, which start at none
pub record IsCountRow (width : ℕ) (row : List ℕ) : Type 0 where
  pub size : length row ≡ width
  pub starts : slice_index row 0 ≡ 0
  pub small : (units : ℕ) → slice_index row units ≤ SEARCH_ROWS_MOST

-- rows as they are kept
abbrev pub kept_rows : List (Vec ℕ) → List (List ℕ)
kept_rows rows = map (λ (row : Vec ℕ). row.items) rows

-- the counts of rows
abbrev pub counts_in : List (List ℕ) → ℕ → ℕ → ℕ
counts_in rows part units = slice_index (slice_index_or rows part []) units

-- each row has so many counts
abbrev pub AreCountRows : ℕ → List (List ℕ) → Type 0
AreCountRows width rows =
    (part : ℕ) → part < length rows → IsCountRow width (slice_index_or rows part [])

-- the least of a row's number and another's, at just so many units together, where the row's is
-- at no more than so many
pub record IsLeastAmong (row sums : List ℕ) (units most least : ℕ) : Type 0 where
  pub taken : ℕ
  pub within : taken ≤ most
  pub attained : slice_index row taken + slice_index sums (units - taken) ≡ least
  pub none_less : (other : ℕ) → other ≤ most
      → least ≤ slice_index row other + slice_index sums (units - other)

-- the least of a row's number and another's, at just so many units together
abbrev pub IsLeastJoint : List ℕ → List ℕ → ℕ → ℕ → Type 0
IsLeastJoint row sums units least = IsLeastAmong row sums units units least

-- each number up to a width is the least of a row's and another's together
abbrev pub AreLeastJoint : ℕ → List ℕ → List ℕ → List ℕ → Type 0
AreLeastJoint width row before after =
    (units : ℕ) → units < width → IsLeastJoint row before units (slice_index after units)

-- each number up to a width is the least cost of a split over so many parts from one on
abbrev pub AreLeastSums : (ℕ → ℕ → ℕ) → ℕ → ℕ → ℕ → List ℕ → Type 0
AreLeastSums count part parts width sums =
    (units : ℕ) → units < width → IsLeastSum count part parts units (slice_index sums units)
