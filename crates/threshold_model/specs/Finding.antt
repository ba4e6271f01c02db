-- What a threshold vector finds: the part at which a code is near enough to the query.
use Rattle.std.specs.Prelude.{◌≡◌, ℕ, ◌+◌, ◌-◌, ◌<◌, ◌≤◌, nat_lt, if◌then◌else◌, ℤ, pos, negsuc, ◌+ℤ◌, ◌≤ℤ◌, ◌<ℤ◌, List, [], ◌∷◌, ◌++◌, length, map, take, replicate, slice_index, slice_index_or, slice_set, All}
use Rattle.hamming_model.specs.Codes.{IsCode, distance}
use Rattle.hamming_model.specs.Layouts.{part_distance}
use Rattle.threshold_model.specs.Vectors.{total, units_of}

-- the distances of two codes at the parts of a layout
abbrev pub part_distances : List (List ℕ) → List ℕ → List ℕ → List ℕ
part_distances layout code query = map (λ part. part_distance part code query) layout

-- the first place where a distance is below the units there
abbrev pub first_part : List ℕ → List ℕ → ℕ
first_part [] distances = 0
first_part (u ∷ us) [] = 0
first_part (u ∷ us) (d ∷ ds) = if nat_lt d u then 0 else first_part us ds + 1

-- a place of the lists is the first where the distance is below the units
pub record IsFirstBelow (units distances : List ℕ) (place : ℕ) : Type 0 where
  pub within : place < length units
  pub below : slice_index distances place < slice_index units place
  pub first : (earlier : ℕ) → earlier < place
      → slice_index units earlier ≤ slice_index distances earlier

-- the threshold of a part
abbrev pub threshold_at : List ℤ → ℕ → ℤ
threshold_at thresholds part = slice_index_or thresholds part (negsuc 0)

-- a part is the first at which the distance is within the threshold
pub record IsFirstFound (thresholds : List ℤ) (distances : List ℕ) (part : ℕ) : Type 0 where
  pub within : part < length distances
  pub near : pos (slice_index distances part) ≤ℤ threshold_at thresholds part
  pub first : (earlier : ℕ) → earlier < part
      → threshold_at thresholds earlier <ℤ pos (slice_index distances earlier)

-- a threshold for each part, each at least -1, with the sum tau - parts:
-- one less than that of a vector
pub record IsShortVector (tau parts : ℕ) (thresholds : List ℤ) : Type 0 where
  pub size : length thresholds ≡ parts
  pub entries : All (λ threshold. negsuc 0 ≤ℤ threshold) thresholds
  pub sum : total thresholds +ℤ pos parts ≡ pos tau

-- one more than each threshold is at most the width of its part
abbrev pub FitWidths : List ℤ → List (List ℕ) → Type 0
FitWidths thresholds layout = (part : ℕ) → part < length layout
    → units_of (threshold_at thresholds part) ≤ length (slice_index_or layout part [])

-- of each part the first positions, one more of them than its threshold
abbrev pub missed_positions : List ℤ → List (List ℕ) → List ℕ
missed_positions [] layout = []
missed_positions (t ∷ ts) [] = []
missed_positions (t ∷ ts) (part ∷ layout) = take (units_of t) part ++ missed_positions ts layout

-- a code with its bits turned over at some positions
abbrev pub turned : List ℕ → List ℕ → List ℕ
turned [] code = code
turned (position ∷ positions) code =
    slice_set (turned positions code) position (1 - slice_index code position)

-- the code that differs from the query at one more position of each part than the part's threshold
abbrev pub missed_code : List ℤ → List (List ℕ) → List ℕ → List ℕ
missed_code thresholds layout query = turned (missed_positions thresholds layout) query

-- a code is near the query, and no part finds it
pub record IsMissed (bits tau : ℕ) (layout : List (List ℕ)) (thresholds : List ℤ)
    (query code : List ℕ) : Type 0 where
  pub is_code : IsCode bits code
  pub near : distance code query ≡ tau
  pub missed : (part : ℕ) → part < length layout
      → threshold_at thresholds part <ℤ pos
      (part_distance (slice_index_or layout part []) code query)

-- the vector that searches the first part alone, up to tau
abbrev pub at_first_part : ℕ → ℕ → List ℤ
at_first_part tau parts = pos tau ∷ replicate (parts - 1) (negsuc 0)
