-- What a search by a threshold vector keeps of the rows that it reads: each near row once,
-- at the first part that finds it.
use Rattle.std.specs.Prelude.{ℕ, ◌+◌, ◌==◌, ◌&&◌, nat_le, Bool, ℤ, List, [], ◌∷◌, ◌++◌, map, filter}
use Rattle.hamming_model.specs.declared.hit.Hit.{Hit}
use Rattle.hamming_model.specs.Codes.{distance}
use Rattle.hamming_model.specs.Scan.{hit_of}
use Rattle.threshold_model.specs.Vectors.{units_of}
use Rattle.threshold_model.specs.Finding.{part_distances, first_part}

-- a row is kept at a part: it is within tau of the query, and the part is the first that finds it
abbrev pub is_kept : List (List ℕ) → List ℤ → List ℕ → ℕ → ℕ → ℕ × List ℕ → Bool
is_kept layout thresholds query tau part row =
    nat_le (distance row.1 query) tau
    && (first_part (map units_of thresholds) (part_distances layout row.1 query) == part)

-- the hits that a part keeps of rows, in their order
abbrev pub hits_kept : List (List ℕ) → List ℤ → List ℕ → ℕ → ℕ → List (ℕ × List ℕ) → List Hit
hits_kept layout thresholds query tau part rows =
    map (hit_of query) (filter (is_kept layout thresholds query tau part) rows)

-- the hits that the parts from this one on keep, each of its own rows
abbrev pub hits_of_parts : List (List ℕ) → List ℤ → List ℕ → ℕ → ℕ
    → List (List (ℕ × List ℕ)) → List Hit
hits_of_parts layout thresholds query tau part [] = []
hits_of_parts layout thresholds query tau part (rows ∷ read) =
    hits_kept layout thresholds query tau part rows ++ hits_of_parts layout thresholds query tau
    (part + 1) read
