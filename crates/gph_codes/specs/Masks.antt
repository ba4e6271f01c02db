-- Masks: codes whose ones are at some positions, and the Hamming distance at these positions alone.
use Rattle.std.specs.Prelude.{ℕ, ◌+◌, ◌==◌, if◌then◌else◌, List, [], ◌∷◌, replicate, slice_set}
use Rattle.hamming_model.specs.Codes.{difference}

-- 1 where two bits differ at a position where the mask has a one
abbrev pub difference_under : ℕ → ℕ → ℕ → ℕ
difference_under mask a b = if mask == 1 then difference a b else 0

-- the Hamming distance under a mask: at how many positions where it has a one two codes differ
abbrev pub distance_under : List ℕ → List ℕ → List ℕ → ℕ
distance_under [] code other = 0
distance_under (m ∷ mask) [] other = 0
distance_under (m ∷ mask) (a ∷ code) [] = 0
distance_under (m ∷ mask) (a ∷ code) (b ∷ other) =
    difference_under m a b + distance_under mask code other

-- a mask with ones at some positions more
abbrev pub with_ones : List ℕ → List ℕ → List ℕ
with_ones mask [] = mask
with_ones mask (position ∷ positions) = with_ones (slice_set mask position 1) positions

-- the mask of some of so many positions
abbrev pub mask_of : ℕ → List ℕ → List ℕ
mask_of size positions = with_ones (replicate size 0) positions
