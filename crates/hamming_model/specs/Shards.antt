-- What the shards of some rows give, beside what all rows give.
use Rattle.std.specs.Prelude.{◌≡◌, ℕ, ◌<◌, List, length, slice_index_or}
use Rattle.hamming_model.specs.History.{shard_rows}
use Rattle.hamming_model.specs.Scan.{scan}
use Rattle.hamming_model.specs.declared.hit.Hit.{Hit}

-- the list has, for each of so many shards, the scan of the shard's rows
pub record AreShardScans (shards : ℕ) (rows : List (ℕ × List ℕ)) (query : List ℕ) (radius : ℕ)
    (scans : List (List Hit)) : Type 0 where
  pub some : 0 < shards
  pub number : length scans ≡ shards
  pub each : (shard : ℕ) (other : List Hit) → shard < shards
      → slice_index_or scans shard other ≡ scan (shard_rows shard shards rows) query radius

-- and the list has the number of its rows
pub record AreShardNumbers (shards : ℕ) (rows : List (ℕ × List ℕ)) (numbers : List ℕ) : Type 0 where
  pub some : 0 < shards
  pub number : length numbers ≡ shards
  pub each : (shard : ℕ) (other : ℕ) → shard < shards
      → slice_index_or numbers shard other ≡ length (shard_rows shard shards rows)
