-- Parts as they are kept. No public clause cites this module.
use Rattle.std.specs.Prelude.{ℕ, zero, suc, [], ◌∷◌, ◌+◌, ◌*◌, ◌%◌, ◌<◌, ◌≤◌, ◌≡◌, ◌++◌, List, All, Option, Some, None, map, length, slice_index_or}
use Rattle.std.specs.List.{flat_map, range_with_len}
use Rattle.std.specs.Global.{Vec}
use Rattle.part_layout.specs.Contiguous.{runs}
use Rattle.part_layout.specs.Laid.{IsLaid, Laid}

-- the lists of the parts
abbrev pub lists_of : List (Vec ℕ) → List (List ℕ)
lists_of parts = map (λ part. part.items) parts

-- a layout as callers see it
abbrev pub laid_of : ℕ → List (Vec ℕ) → Laid
laid_of bits parts = record { bits = bits; parts = lists_of parts }

-- the positions of a part run on from the first of them, in one word of 64 bits
pub record RunsOn (part : List ℕ) (first : ℕ) : Type 0 where
  pub in_order : part ≡ range_with_len first (length part)
  pub in_word : first % 64 + length part ≤ 64

-- a first position for each part, or none; where there is one the part runs on from it
pub record AreRuns (parts : List (List ℕ)) (runs : List (Option ℕ)) : Type 0 where
  pub number : length runs ≡ length parts
  pub each : (part first : ℕ) → part < length parts → slice_index_or runs part None ≡ Some first
      → RunsOn (slice_index_or parts part []) first

-- a layout, and which of its parts run on in one word
pub record IsLaidInRuns (laid : Laid) (runs : List (Option ℕ)) : Type 0 where
  pub is_laid : IsLaid laid
  pub runs_are : AreRuns laid.parts runs

-- so many parts of one width are added, their positions in order from the first on
abbrev pub AddsRuns : List (Vec ℕ) → List (Vec ℕ) → ℕ → ℕ → ℕ → Type 0
AddsRuns old new number width first = lists_of new ≡ lists_of old ++ runs number width first

-- no part is empty, and a buffer of so many bytes has room for their text: four bytes a position
pub record FitsText (bytes : ℕ) (parts : List (List ℕ)) : Type 0 where
  pub some : All (λ part. 0 < length part) parts
  pub short : All (λ part. All (λ position. position < 1000) part) parts
  pub room : 4 * length (flat_map (λ part. part) parts) ≤ bytes

-- the mark that stands before a piece at a place, but not before the first
abbrev pub mark_before : ℕ → ℕ → List ℕ
mark_before zero mark = []
mark_before (suc place) mark = mark ∷ []
