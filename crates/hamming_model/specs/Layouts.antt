-- Layouts: the positions of a code cut into parts, and what two codes are to one part.
use Rattle.std.specs.Prelude.{◌≡◌, ℕ, ◌<◌, ◌≤◌, ◌==◌, nat_lt, List, length, map, count_by, slice_index, All}
use Rattle.std.specs.List.{flat_map}
use Rattle.std.specs.Int.Digits.{number_from_digits}
use Rattle.hamming_model.specs.Codes.{distance}
use Rattle.hamming_model.specs.declared.limits.TheConstants.{PARTS_MOST, PART_WIDTH_MOST}

-- a part is the list of its positions, and a layout the list of its parts: every position below the
-- number of bits stands in exactly one part, once
pub record IsLayout (bits : ℕ) (layout : List (List ℕ)) : Type 0 where
  pub some_part : 0 < length layout
  pub few_parts : length layout ≤ PARTS_MOST
  pub widths : All (λ part. (0 < length part) × (length part ≤ PART_WIDTH_MOST)) layout
  pub in_range : All (λ position. position < bits) (flat_map (λ part. part) layout)
  pub once : (position : ℕ) → position < bits
      → count_by (λ other. other == position) (flat_map (λ part. part) layout) ≡ 1

-- the bits of a code at the positions of a part, in the part's order
abbrev pub bits_at : List ℕ → List ℕ → List ℕ
bits_at code part = map (λ position. slice_index code position) part

-- the number that a code has at a part: its first position is the top binary digit
abbrev pub part_value : List ℕ → List ℕ → ℕ
part_value code part = number_from_digits 2 (bits_at code part)

-- at how many positions of a part two codes differ
abbrev pub part_distance : List ℕ → List ℕ → List ℕ → ℕ
part_distance part code query = distance (bits_at code part) (bits_at query part)

-- how many rows are nearer than so many at a part: of the radius e those below e + 1,
-- and of -1 none
abbrev pub part_count : List (ℕ × List ℕ) → List ℕ → List ℕ → ℕ → ℕ
part_count rows part query units =
    count_by (λ row. nat_lt (part_distance part row.1 query) units) rows
