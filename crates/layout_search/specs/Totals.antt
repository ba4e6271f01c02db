-- The least costs of the samples. No public clause cites this module.
use Rattle.std.specs.Prelude.{ℕ, ◌<◌, ◌≤◌, List, length, slice_index_or}
use Rattle.exchange_model.specs.declared.limits.TheConstants.{SAMPLES_MOST}
use Rattle.layout_search.specs.Seen.{levels_in}
use Rattle.sample_table.specs.Levels.{PairTable, least_of_levels}

-- the least cost of a table
abbrev pub table_cost : PairTable → ℕ
table_cost table = least_of_levels (levels_in table)

-- a few tables, each of some parts
pub record AreSolvable (tables : List PairTable) : Type 0 where
  pub number : length tables ≤ SAMPLES_MOST
  pub some : (k : ℕ) (table : PairTable) → k < length tables
      → 0 < length (levels_in (slice_index_or tables k table)).rows
