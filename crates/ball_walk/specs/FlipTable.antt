-- What a table of flips keeps: all numbers of its width, and where those with so many ones begin;
-- and what a walk over it keeps.
-- No public clause cites this module.
use Rattle.std.specs.Prelude.{◌≡◌, ℕ, ◌+◌, ◌^◌, ◌<◌, ◌≤◌, List, length, map, take, drop, slice_index}
use Rattle.std.specs.Int.RustNames.{bit_xor}
use Rattle.std.specs.List.{flat_map, range_with_len}
use Rattle.hamming_model.specs.declared.limits.TheConstants.{PART_WIDTH_MOST}
use Rattle.ball_walk.specs.Flips.{flips}

-- the numbers of a width with fewer ones than so many, by how many ones they have
unfoldable pub flips_below : ℕ → ℕ → List ℕ
flips_below width apart = flat_map (flips width) (range_with_len 0 apart)

-- the first so many places are those where the numbers with so many ones begin
pub record AreStarts (width count : ℕ) (starts : List ℕ) : Type 0 where
  pub number : length starts ≡ count
  pub each : (apart : ℕ) → apart < count
      → slice_index starts apart ≡ length (flips_below width apart)

-- the numbers are all of the width, and their starts end where they do
pub record IsFlipTable (width : ℕ) (numbers starts : List ℕ) : Type 0 where
  pub small : width ≤ PART_WIDTH_MOST
  pub all : numbers ≡ flips_below width (width + 1)
  pub starts_at : AreStarts width (width + 2) starts

-- all numbers of a width, by how many ones they have
abbrev pub all_flips : ℕ → List ℕ
all_flips width = flips_below width (width + 1)

-- what so many flips from a place on make of a value
abbrev pub flipped_from : ℕ → ℕ → ℕ → ℕ → List ℕ
flipped_from value width at left = map (bit_xor value) (take left (drop at (all_flips width)))

-- the numbers of a walk over flips are in range
pub record IsFlipped (value width at left : ℕ) : Type 0 where
  pub small : width ≤ PART_WIDTH_MOST
  pub in_width : value < 2 ^ width
  pub within : at + left ≤ length (all_flips width)
