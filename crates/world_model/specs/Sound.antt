-- What holds between any two events: the history is legal, every live front has its version on
-- every shard, every front lists the older ones, and every query is on its own prefix.
use Rattle.std.specs.Prelude.{◌≡◌, ℕ, ◌<◌, ◌≤◌, false, List, [], length, Some, None, IfSome, slice_get}
use Rattle.hamming_model.specs.History.{JournalEntry, IsLegal}
use Rattle.hamming_model.specs.Stored.{AreCodes}
use Rattle.threshold_model.specs.Bounds.{last_distance}
use Rattle.part_layout.specs.Laid.{Laid}
use Rattle.shard_version.specs.Contents.{Contents}
use Rattle.hit_source.specs.Sources.{Asked, Standing, IsLawful}
use Rattle.commit_journal.specs.Fronts.{IsFront}
use Rattle.commit_journal.specs.Journals.{IsKnown}
use Rattle.scatter_gather.specs.Kept.{IsUpTo}
use Rattle.versioned_shard.specs.Along.{Follows}
use Rattle.versioned_shard.specs.Rule.{KeepsRule}
use Rattle.world_model.specs.Asking.{SourceAsks}
use Rattle.world_model.specs.Events.{Setting, IsLayoutFor, IsQuestion}
use Rattle.world_model.specs.WorldState.{WorldState, ShardWithBuild, WorldQuery, Rebuild, answer_on, front_on, live_fronts, unpinned}

-- a version of one of the world's shards
pub record IsShardVersion (z : Setting) (shard : ℕ) (version : Contents) : Type 0 where
  pub shard_is : version.shard ≡ shard
  pub shards_is : version.shards ≡ z.shards
  pub layout : IsLayoutFor z.bits version.layout

-- a build of a shard has the shard's rows of a prefix of the history, and so many aren't placed
pub record IsBuild (z : Setting) (history : List JournalEntry) (shard : ℕ) (build : Rebuild)
    : Type 0 where
  pub of_shard : IsShardVersion z shard build.version
  pub within : build.version.at ≤ length history
  pub follows : Follows history build.version
  pub few : build.left ≤ length build.version.rows

-- a shard keeps the rule of versions: each has the rows of its own prefix, and every live front has
-- its version there, or the shard has yet to come to it
pub record KeepsShard (z : Setting) (history : List JournalEntry) (queries : List WorldQuery)
    (shard : ℕ) (place : ShardWithBuild) : Type 0 where
  pub rule : KeepsRule (live_fronts queries) history place.shard
  pub of_shard : IsShardVersion z shard place.shard.current
  pub build : IfSome place.build (IsBuild z history shard)

-- an open front keeps the rule of older fronts: each live front below it stands in its list
pub record KeepsOlder (history : List JournalEntry) (queries : List WorldQuery) (query : WorldQuery)
    (older : List ℕ) : Type 0 where
  pub front : IsFront (front_on history query older)
  pub known : IsKnown (live_fronts queries) history (front_on history query older)

-- a source of a query is lawful, and has begun no radius above the distance of the last hit
pub record IsSource (z : Setting) (history : List JournalEntry) (query : WorldQuery) (shard : ℕ)
    (source : Standing) : Type 0 where
  pub asked : Asked
  pub asks : SourceAsks z history query shard asked
  pub lawful : IsLawful asked source
  pub begun : IsUpTo source.begun (last_distance (answer_on z history query))

-- a query stands on a prefix of the history; its front is open until every shard is pinned, and
-- then it has a source on each; it has given no more than its answer
pub record IsQuery (z : Setting) (history : List JournalEntry) (query : WorldQuery) : Type 0 where
  pub within : query.position ≤ length history
  pub question : IsQuestion z.bits query.ask
  pub number : length query.pinned ≡ z.shards
  pub layouts : (shard : ℕ) (layout : Laid) → slice_get query.pinned shard ≡ Some (Some layout)
      → IsLayoutFor z.bits layout
  pub given : query.given ≤ length (answer_on z history query)
  pub fronted : query.cancelled ≡ false → query.front ≡ None → unpinned query ≡ 0
  pub waits : 0 < unpinned query → query.sources ≡ []
  pub sourced : unpinned query ≡ 0 → length query.sources ≡ z.shards
  pub sources : (shard : ℕ) (source : Standing) → slice_get query.sources shard ≡ Some source
      → IsSource z history query shard source

-- what holds between any two events
pub record IsSound (z : Setting) (s : WorldState) : Type 0 where
  pub legal : IsLegal s.history
  pub few : length s.history ≤ z.limit
  pub codes : AreCodes z.bits s.history
  pub number : length s.places ≡ z.shards
  pub places : (shard : ℕ) (place : ShardWithBuild) → slice_get s.places shard ≡ Some place
      → KeepsShard z s.history s.queries shard place
  pub fronts : (number : ℕ) (query : WorldQuery) (older : List ℕ)
      → slice_get s.queries number ≡ Some query → query.front ≡ Some older
      → KeepsOlder s.history s.queries query older
  pub queries : (number : ℕ) (query : WorldQuery) → slice_get s.queries number ≡ Some query
      → IsQuery z s.history query
