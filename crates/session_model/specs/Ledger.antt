-- What the queries of a session may read, and by how much the ledgers of it rise.
use Rattle.std.specs.Prelude.{◌≡◌, ℕ, ◌+◌, ◌<◌, ◌≤◌, ℤ, Option}
use Rattle.std.specs.Prelude.{List, [], ◌∷◌, length, map, take, slice_index, slice_index_or}
use Rattle.std.specs.List.{AllByRecursion}
use Rattle.hamming_model.specs.History.{JournalEntry, rows_of, shard_rows}
use Rattle.hamming_model.specs.Scan.{answer}
use Rattle.hamming_model.specs.declared.hit.Hit.{Hit}
use Rattle.threshold_model.specs.Bounds.{IsBoundOf, IsPlanOf, last_distance}
use Rattle.part_layout.specs.declared.config.Config.{Config}
use Rattle.session_model.specs.State.{Query}

-- the layout of a shard
abbrev pub layout_at : List (List (List ℕ)) → ℕ → List (List ℕ)
layout_at layouts shard = slice_index_or layouts shard []

-- the rows of a shard on which a query stands
abbrev pub rows_at : Config → List JournalEntry → Query → ℕ → List (ℕ × List ℕ)
rows_at config history query shard =
    shard_rows shard config.shards (rows_of (take query.position history))

-- the whole answer of a query
abbrev pub answer_to : Config → List JournalEntry → Query → List Hit
answer_to config history query =
    answer config.bits (rows_of (take query.position history)) query.ask

-- the distance of the last hit that a query has given
abbrev pub last_given : Config → List JournalEntry → Query → Option ℕ
last_given config history query = last_distance (take query.given (answer_to config history query))

-- the most postings that a query may read on a shard for its hits up to a distance
abbrev pub IsBoundAt : Config → List JournalEntry → Query → Option ℕ → ℕ → ℕ → Type 0
IsBoundAt config history query last shard bound =
    IsBoundOf query.ask (rows_at config history query shard) (layout_at query.pinned shard) last
    bound

-- the sum of numbers
abbrev pub sum_of : List ℕ → ℕ
sum_of [] = 0
sum_of (number ∷ numbers) = number + sum_of numbers

-- the most postings that a query may read on all shards for its hits up to a distance
pub record IsBound (config : Config) (history : List JournalEntry) (query : Query)
    (last : Option ℕ) (bound : ℕ) : Type 0 where
  pub bounds : List ℕ
  pub number : length bounds ≡ config.shards
  pub each : (shard : ℕ) → shard < config.shards →
      IsBoundAt config history query last shard (slice_index bounds shard)
  pub all : bound ≡ sum_of bounds

-- the first of the cheapest threshold vectors of a query in a shard, and its cost
abbrev pub IsPlanOfQuery : Config → List JournalEntry → Query → ℕ → List ℤ → ℕ → Type 0
IsPlanOfQuery config history query shard =
    IsPlanOf query.ask (rows_at config history query shard) (layout_at query.pinned shard)
    (last_given config history query)

-- a query has read no more on a shard than it may for its whole answer
pub record IsWithinBound (config : Config) (history : List JournalEntry) (query : Query) (shard : ℕ)
    : Type 0 where
  pub bound : ℕ
  pub is_bound : IsBoundAt config history query (last_distance (answer_to config history query))
      shard bound
  pub within : slice_index query.reads shard ≤ bound

-- a query has read on each shard, and nowhere else, at most its bound there
pub record IsBounded (config : Config) (history : List JournalEntry) (query : Query) : Type 0 where
  pub number : length query.reads ≡ config.shards
  pub within : (shard : ℕ) → shard < config.shards → IsWithinBound config history query shard

-- what a session has read: for each query that it opened the postings on each shard, and beside
-- them the steps of upkeep
pub record Rise : Type 0 where
  pub readings : List (List ℕ)
  pub upkeep : ℕ

-- what queries have read, by query and shard
abbrev pub readings_of : List Query → List (List ℕ)
readings_of queries = map (λ query. query.reads) queries

-- so much was read by these queries, each within its bounds
pub record IsRise (config : Config) (history : List JournalEntry) (queries : List Query)
    (rise : Rise) : Type 0 where
  pub readings : rise.readings ≡ readings_of queries
  pub bounded : AllByRecursion (IsBounded config history) queries

-- the column of a shard: what all queries have read there
abbrev pub column : ℕ → List (List ℕ) → ℕ
column shard [] = 0
column shard (row ∷ rows) = slice_index row shard + column shard rows

-- the ledgers of a server: what the queries read, by shard, and the steps of upkeep
pub record Ledgers : Type 0 where
  pub reads : List ℕ
  pub upkeep : ℕ

-- ledgers of these numbers
abbrev pub ledgers : List ℕ → ℕ → Ledgers
ledgers reads upkeep = record { reads = reads; upkeep = upkeep }

-- each ledger of the queries rises by the column of its shard, and those beyond the shards don't;
-- that of upkeep rises by its steps at most
pub record RisesBy (old new : Ledgers) (rise : Rise) : Type 0 where
  pub number : length new.reads ≡ length old.reads
  pub each : (ledger : ℕ) → ledger < length old.reads → slice_index new.reads ledger
      ≡ slice_index old.reads ledger + column ledger rise.readings
  pub steps : new.upkeep ≤ old.upkeep + rise.upkeep
