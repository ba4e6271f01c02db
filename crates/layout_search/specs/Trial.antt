-- A trial of an exchange, beside the counts of the tables. No public clause cites this module.
use Rattle.std.specs.Prelude.{◌≡◌, ℕ, ◌+◌, ◌<◌, List, [], length, slice_index_or}
use Rattle.sample_table.specs.Levels.{IsTurnedTo, PairTable}
use Rattle.layout_search.specs.Counted.{level_table}
use Rattle.layout_search.specs.Improves.{plain_sample}
use Rattle.layout_search.specs.Inside.{HaveParts, HaveRadii, plain_rows, with_levels}
use Rattle.layout_search.specs.Seen.{levels_in}
use Rattle.layout_search.specs.declared.sample.Sample.{Sample}

-- the tables of the samples over a layout, once a part and the next are counted anew
pub record AreTablesBeside {W : ℕ} (bits : ℕ) (rows : List (ℕ × List ℕ))
    (samples : List (Sample W)) (parts : List (List ℕ)) (pair : ℕ) (tables : List PairTable)
    : Type 0 where
  pub number : length tables ≡ length samples
  pub wide : HaveParts (length parts) (length tables) tables
  pub near : HaveRadii samples tables
  pub each : (k : ℕ) (sample : Sample W) (table : PairTable) → k < length samples
      → with_levels (plain_rows bits rows)
      (with_levels (plain_rows bits rows) (levels_in (slice_index_or tables k table)) pair
      (plain_sample bits (slice_index_or samples k sample)) (slice_index_or parts pair []))
      (pair + 1) (plain_sample bits (slice_index_or samples k sample))
      (slice_index_or parts (pair + 1) [])
      ≡ level_table (plain_rows bits rows) parts
      (plain_sample bits (slice_index_or samples k sample))

-- each table has more parts than one from a part on
pub record HavePair (pair : ℕ) (tables : List PairTable) : Type 0 where
  pub each : (k : ℕ) (table : PairTable) → k < length tables
      → pair + 1 < length (levels_in (slice_index_or tables k table)).rows

-- the first so many tables are turned to a part and the next
pub record AreTurned (pair count : ℕ) (tables : List PairTable) : Type 0 where
  pub each : (k : ℕ) (table : PairTable) → k < count → k < length tables
      → IsTurnedTo pair (slice_index_or tables k table)

-- the tables have the same counts
pub record HaveSameCounts (old new : List PairTable) : Type 0 where
  pub number : length new ≡ length old
  pub each : (k : ℕ) (table : PairTable) → k < length old
      → levels_in (slice_index_or new k table) ≡ levels_in (slice_index_or old k table)
