-- How the rows of a version are kept: in buckets, by the rest of the key.
-- No public clause cites this module.
use Rattle.std.specs.Prelude.{◌≡◌, ℕ, ◌%◌, ◌^◌, ◌<◌, ◌≤◌, nat_lt, if◌then◌else◌, List, [], ◌∷◌, map, length, take, slice_index, slice_index_or}
use Rattle.std.specs.Arc.{arc_value}
use Rattle.std.specs.BTreeMap.{insert_entry}
use Rattle.std.specs.List.{AllByRecursion}
use Rattle.std.specs.List.Sorted.{IsStrictlySortedBy}
use Rattle.std.specs.Map.{keys_of}
use Rattle.std.specs.Ordering.{nat_cmp}
use Rattle.std.specs.declared.sync.Arc.{Arc}
use Rattle.std.specs.declared.alloc.Global.{Global}
use Rattle.hamming_model.specs.History.{shard_rows}
use Rattle.shard_version.specs.declared.keyed_rows.TheConstants.{ROW_BUCKETS}

-- rows with those of a bucket put among them
abbrev pub put_all : List (ℕ × List ℕ) → List (ℕ × List ℕ) → List (ℕ × List ℕ)
put_all [] rows = rows
put_all (row ∷ bucket) rows = insert_entry nat_cmp (put_all bucket rows) row.0 row.1

-- the rows of all buckets, ascending by key
abbrev pub rows_in : List (List (ℕ × List ℕ)) → List (ℕ × List ℕ)
rows_in [] = []
rows_in (bucket ∷ buckets) = put_all bucket (rows_in buckets)

-- the rows of a bucket
abbrev pub bucket_at : List (List (ℕ × List ℕ)) → ℕ → List (ℕ × List ℕ)
bucket_at buckets at = slice_index_or buckets at []

-- the rows of shared buckets
abbrev pub row_buckets_of : List (Arc (List (ℕ × List ℕ)) Global) → List (List (ℕ × List ℕ))
row_buckets_of shared = map (λ bucket. arc_value bucket) shared

-- each bucket has the rows whose keys have its rest, ascending by key
pub record AreRowBuckets (buckets : List (List (ℕ × List ℕ))) : Type 0 where
  pub number : length buckets ≡ ROW_BUCKETS
  pub ascend : (at : ℕ) → at < ROW_BUCKETS
      → IsStrictlySortedBy nat_cmp (keys_of (bucket_at buckets at))
  pub own : (at : ℕ) → at < ROW_BUCKETS
      → AllByRecursion (λ row. row.0 % ROW_BUCKETS ≡ at) (bucket_at buckets at)

-- and so many rows are in all of them
pub record AreKeyedRows (number : ℕ) (buckets : List (List (ℕ × List ℕ))) : Type 0 where
  pub each : AreRowBuckets buckets
  pub counted : number ≡ length (rows_in buckets)

-- the key of the row at a place, or a number above all keys where there is none
abbrev pub key_from : List (ℕ × List ℕ) → ℕ → ℕ
key_from rows at = if nat_lt at (length rows) then (slice_index_or rows at (0, [])).0 else 2 ^ 64

-- the key of the next row of a bucket, of which so many were taken
abbrev pub head_key : List (List (ℕ × List ℕ)) → List ℕ → ℕ → ℕ
head_key buckets heads at = key_from (bucket_at buckets at) (slice_index heads at)

-- of each bucket no row is taken
pub record AreNone (heads : List ℕ) : Type 0 where
  pub number : length heads ≡ ROW_BUCKETS
  pub none : (at : ℕ) → slice_index heads at ≡ 0

-- a bucket whose next row has the least key of the first so many
pub record IsLeastHead (buckets : List (List (ℕ × List ℕ))) (heads : List ℕ)
    (count least : ℕ) : Type 0 where
  pub inside : least < ROW_BUCKETS
  pub below : (at : ℕ) → at < count → head_key buckets heads least ≤ head_key buckets heads at
  pub small : (at : ℕ) → at < count → slice_index heads at < length (bucket_at buckets at)
      → head_key buckets heads at < 2 ^ 64

-- the first so many rows are taken, each from its bucket
pub record AreTaken (rows first : List (ℕ × List ℕ)) (heads : List ℕ) (count : ℕ) : Type 0 where
  pub taken : first ≡ take count rows
  pub number : length heads ≡ ROW_BUCKETS
  pub each : (at : ℕ) → at < ROW_BUCKETS
      → slice_index heads at ≡ length (shard_rows at ROW_BUCKETS (take count rows))
