-- Open queries in memory, the cursors: what the source of a shard is asked and where it stands.
-- No public clause cites this module.
use Rattle.std.specs.Prelude.{ℕ, List, map}
use Rattle.hit_source.specs.Sources.{Asked, Standing}
use Rattle.shard_query.specs.declared.range_task.RangeTask.{RangeTask}
use Rattle.knn_task.specs.declared.near_task.NearTask.{NearTask}
use Rattle.query_opening.specs.Sources.{source_asked, source_standing}
use Rattle.scatter_gather.specs.declared.either.Either.{Either}
use Rattle.open_queries.specs.declared.open_query.OpenQuery.{OpenQuery}

-- the source of a shard: a range query or a near one
abbrev pub ShardSource : ℕ → Type 0
ShardSource W = Either (RangeTask W) (NearTask W)

-- a cursor: an open query over a source for each shard
abbrev pub Cursor : ℕ → Type 0
Cursor W = OpenQuery (ShardSource W)

-- what a source is asked
abbrev pub asks : {W : ℕ} → ShardSource W → Asked
asks {W} source = source_asked {W = W} source

-- where a source stands
abbrev pub stands : {W : ℕ} → ShardSource W → Standing
stands {W} source = source_standing {W = W} source

-- what the sources of a cursor have read, by shard
abbrev pub reads_in : {W : ℕ} → Cursor W → List ℕ
reads_in {W} cursor = map (λ source. (stands {W = W} source).reads) cursor.gather.sources
