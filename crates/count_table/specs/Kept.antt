-- What a table keeps. No public clause cites this module.
use Rattle.std.specs.Prelude.{◌≡◌, ℕ, ◌^◌, ◌<◌, ◌≤◌, List, length, sum}
use Rattle.count_table.specs.Copies.{CopyTable}
use Rattle.hamming_model.specs.declared.limits.TheConstants.{ENTRIES_MOST, PART_WIDTH_MOST}

-- there is a number for each value, the total is their sum, and the flips are those of the width
pub record IsCountTable (width total flipped : ℕ) (copies : List ℕ) : Type 0 where
  pub some_width : 0 < width
  pub small_width : width ≤ PART_WIDTH_MOST
  pub each_value : length copies ≡ 2 ^ width
  pub all : total ≡ sum copies
  pub few : total ≤ ENTRIES_MOST
  pub flips : flipped ≡ width

-- the table of copies by value
abbrev pub kept_copies : ℕ → List ℕ → CopyTable
kept_copies width copies = record { width = width; copies = copies }

-- there is a number for each value of the width, not too many in all, and a value is of the width
pub record AreKeptCopies (width value : ℕ) (copies : List ℕ) : Type 0 where
  pub in_width : value < 2 ^ width
  pub number : length copies ≡ 2 ^ width
  pub in_all : sum copies ≤ ENTRIES_MOST
