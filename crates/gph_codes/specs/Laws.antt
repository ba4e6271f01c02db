-- What words are to the codes that they stand for.
use Rattle.std.specs.Prelude.{◌≡◌, ℕ, ◌<◌, ◌↔◌, List, [], length, slice_index_or}
use Rattle.hamming_model.specs.Codes.{StandsFor, distance}
use Rattle.hamming_model.specs.Layouts.{part_distance}
use Rattle.gph_codes.specs.Masks.{distance_under, mask_of}

-- words are as far apart as the codes that they stand for
abbrev pub KeepsDistance : ℕ → ℕ → Type 0
KeepsDistance words bits =
    (a b x y : List ℕ) → StandsFor words bits a x → StandsFor words bits b y → distance a b
    ≡ distance x y

-- the same words stand for the same code, and the same code stands in the same words
abbrev pub StandsForOne : ℕ → ℕ → Type 0
StandsForOne words bits =
    (a b x y : List ℕ) → StandsFor words bits a x → StandsFor words bits b y → (a ≡ b) ↔ (x ≡ y)

-- at each part of a layout codes of so many positions are as far apart as under the part's mask
abbrev pub MasksParts : ℕ → ℕ → List (List ℕ) → Type 0
MasksParts size bits layout =
    (part : ℕ) (code other : List ℕ) → part < length layout → length code ≡ size
    → length other ≡ size →
    distance_under (mask_of size (slice_index_or layout part [])) code other
    ≡ part_distance (slice_index_or layout part []) code other
