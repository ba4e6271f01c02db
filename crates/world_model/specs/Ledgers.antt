-- What the queries of a world read on each shard, and the most that they may.
use Rattle.std.specs.Prelude.{◌≡◌, ℕ, ◌==◌, false, Bool, List, [], ◌∷◌, sum_by, Option, Some, None, slice_get}
use Rattle.hamming_model.specs.History.{JournalEntry}
use Rattle.hit_source.specs.Sources.{Standing}
use Rattle.threshold_model.specs.Bounds.{IsSumWith}
use Rattle.world_model.specs.Answers.{IsPinnedBound}
use Rattle.world_model.specs.Events.{Setting, Event, Poll}
use Rattle.world_model.specs.WorldState.{WorldQuery}

-- what the source of a query on a shard has read
abbrev pub reads_at : ℕ → WorldQuery → ℕ
reads_at shard query =
    elim (slice_get query.sources shard) [ None ↦ 0 | Some source ↦ source.reads ]

-- what the sources of all queries on a shard have read
abbrev pub reads_on : ℕ → List WorldQuery → ℕ
reads_on shard queries = sum_by (reads_at shard) queries

-- the most that a query may read on a shard: nothing, where it has no source there
abbrev pub IsShare : Setting → List JournalEntry → ℕ → WorldQuery → Option Standing → ℕ → Type 0
IsShare z history shard query None share = share ≡ 0
IsShare z history shard query (Some source) share = IsPinnedBound z history query shard share

-- the most that all queries may read on a shard, added up
abbrev pub IsSumOfBounds : Setting → List JournalEntry → ℕ → List WorldQuery → ℕ → Type 0
IsSumOfBounds z history shard [] sum = sum ≡ 0
IsSumOfBounds z history shard (query ∷ queries) sum =
    IsSumWith (IsSumOfBounds z history shard queries)
    (IsShare z history shard query (slice_get query.sources shard)) sum

-- whether an event may read on a shard
abbrev pub reads_there : ℕ → Event → Bool
reads_there shard (Poll query polled budget) = polled == shard
reads_there shard event = false
