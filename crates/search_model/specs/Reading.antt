-- What a search by a threshold vector reads: at each part the posting lists of a ball's values.
use Rattle.std.specs.Prelude.{◌≡◌, ℕ, ◌+◌, ◌^◌, ◌<◌, ◌==◌, nat_lt, ℤ, List, [], ◌∷◌, length, filter, sum_by, take, slice_index_or}
use Rattle.std.specs.List.{flat_map}
use Rattle.hamming_model.specs.Layouts.{part_value, part_distance}
use Rattle.threshold_model.specs.Vectors.{units_of}
use Rattle.threshold_model.specs.Finding.{threshold_at}
use Rattle.ball_walk.specs.Balls.{ball}

-- two lists have the same elements, each as often:
-- whatever is added up over one adds up to as much over the other
pub record HasSame {X : Type 0} (xs ys : List X) : Type 0 where
  pub sums : (f : X → ℕ) → sum_by f xs ≡ sum_by f ys

-- the rows that a part finds: those nearer to the query there than so many units
abbrev pub rows_found : List (ℕ × List ℕ) → List ℕ → List ℕ → ℕ → List (ℕ × List ℕ)
rows_found rows part query units =
    filter (λ row. nat_lt (part_distance part row.1 query) units) rows

-- the rows with a value at a part
abbrev pub rows_with : List (ℕ × List ℕ) → List ℕ → ℕ → List (ℕ × List ℕ)
rows_with rows part value = filter (λ row. part_value row.1 part == value) rows

-- the posting list of each value of a part has exactly the rows with that value
pub record AreLists (rows : List (ℕ × List ℕ)) (part : List ℕ)
    (lists : ℕ → List (ℕ × List ℕ)) : Type 0 where
  pub each : (value : ℕ) → value < 2 ^ length part
      → HasSame (lists value) (rows_with rows part value)

-- the postings of a ball round the query's value, in the order in which they are read
abbrev pub rows_read : (ℕ → List (ℕ × List ℕ)) → List ℕ → List ℕ → ℕ → List (ℕ × List ℕ)
rows_read lists part query units = flat_map lists (ball (part_value query part) (length part) units)

-- the postings of each part from this one on, where each part has lists of its own
abbrev pub parts_read : (ℕ → ℕ → List (ℕ × List ℕ)) → ℕ → List (List ℕ) → List ℤ → List ℕ
    → List (List (ℕ × List ℕ))
parts_read lists number [] thresholds query = []
parts_read lists number (part ∷ layout) [] query = []
parts_read lists number (part ∷ layout) (t ∷ ts) query =
    rows_read (lists number) part query (units_of t) ∷ parts_read lists (number + 1) layout ts query

-- lists of rows, one for each part, that have what the parts find at their thresholds
pub record IsReading (rows : List (ℕ × List ℕ)) (layout : List (List ℕ)) (thresholds : List ℤ)
    (query : List ℕ) (read : List (List (ℕ × List ℕ))) : Type 0 where
  pub size : length read ≡ length layout
  pub each : (part : ℕ) → part < length layout
      → HasSame (slice_index_or read part [])
      (rows_found rows (slice_index_or layout part []) query
      (units_of (threshold_at thresholds part)))

-- how many rows are read in all
abbrev pub number_read : List (List (ℕ × List ℕ)) → ℕ
number_read [] = 0
number_read (rows ∷ read) = length rows + number_read read

-- a row whose code is kept with zeros after it, without them
abbrev pub unpadded : ℕ → ℕ × List ℕ → ℕ × List ℕ
unpadded bits row = (row.0, take bits row.1)
