-- A search that widens the parts one unit at a time: what units find, and what one ring more adds.
use Rattle.std.specs.Prelude.{ℕ, ◌+◌, ◌-◌, ◌<◌, ◌≤◌, ◌==◌, ◌||◌, not, nat_lt, nat_le, Bool}
use Rattle.std.specs.Prelude.{false, List, [], ◌∷◌, length, map, filter, slice_index}
use Rattle.std.specs.Prelude.{slice_set}
use Rattle.std.specs.List.{flat_map}
use Rattle.hamming_model.specs.declared.hit.Hit.{Hit}
use Rattle.hamming_model.specs.Layouts.{part_value, part_distance}
use Rattle.hamming_model.specs.Scan.{hit_of}
use Rattle.threshold_model.specs.Finding.{part_distances}
use Rattle.ball_walk.specs.Balls.{ring}

-- some place of the lists has a distance below the units there
abbrev pub is_below_some : List ℕ → List ℕ → Bool
is_below_some [] distances = false
is_below_some (u ∷ us) [] = false
is_below_some (u ∷ us) (d ∷ ds) = nat_lt d u || is_below_some us ds

-- whether some part finds a row, where each part is searched to so many units
abbrev pub is_met : List (List ℕ) → List ℕ → List ℕ → ℕ × List ℕ → Bool
is_met layout units query row = is_below_some units (part_distances layout row.1 query)

-- the hits of the rows that some part finds
abbrev pub hits_met : List (ℕ × List ℕ) → List (List ℕ) → List ℕ → List ℕ → List Hit
hits_met rows layout units query = map (hit_of query) (filter (is_met layout units query) rows)

-- one unit more at a part
abbrev pub units_raised : List ℕ → ℕ → List ℕ
units_raised units part = slice_set units part (slice_index units part + 1)

-- the rows at one distance from the query at a part
abbrev pub rows_apart : List (ℕ × List ℕ) → List ℕ → List ℕ → ℕ → List (ℕ × List ℕ)
rows_apart rows part query apart = filter (λ row. part_distance part row.1 query == apart) rows

-- the postings of a ring round the query's value, in the order in which they are read
abbrev pub ring_read : (ℕ → List (ℕ × List ℕ)) → List ℕ → List ℕ → ℕ → List (ℕ × List ℕ)
ring_read lists part query apart = flat_map lists (ring (part_value query part) (length part) apart)

-- the hits of those rows of a list that no part finds yet
abbrev pub hits_new : List (List ℕ) → List ℕ → List ℕ → List (ℕ × List ℕ) → List Hit
hits_new layout units query rows =
    map (hit_of query) (filter (λ row. not (is_met layout units query row)) rows)

-- how many rows the next ring of a part has
abbrev pub ring_cost : (ℕ → ℕ → ℕ) → List ℕ → ℕ → ℕ
ring_cost count units part =
    count part (slice_index units part + 1) - count part (slice_index units part)

-- a part whose next ring is a cheapest one
pub record IsCheapest (count : ℕ → ℕ → ℕ) (units : List ℕ) (part : ℕ) : Type 0 where
  pub within : part < length units
  pub none_cheaper : (other : ℕ) → other < length units
      → ring_cost count units part ≤ ring_cost count units other

-- the hits of a list nearer than so many units
abbrev pub hits_nearer : List Hit → ℕ → List Hit
hits_nearer hits units = filter (λ hit. nat_lt hit.dist units) hits

-- the others: those at least so far
abbrev pub hits_from : List Hit → ℕ → List Hit
hits_from hits units = filter (λ hit. nat_le units hit.dist) hits
