-- What the events on a query's front do: openings, pins and cancellations.
use Rattle.std.specs.Prelude.{◌≡◌, ℕ, ◌<◌, ◌⊎◌, ◌↔◌, nat_lt, if◌then◌else◌, true, List, [], ◌∷◌, ◌++◌, length, Option, Some, None, slice_get, slice_set}
use Rattle.hamming_model.specs.History.{JournalEntry}
use Rattle.hamming_model.specs.Scan.{Ask}
use Rattle.part_layout.specs.Laid.{Laid}
use Rattle.shard_version.specs.Contents.{Contents}
use Rattle.hit_source.specs.Sources.{Standing}
use Rattle.commit_journal.specs.Fronts.{ArePositionsInOrder, StandsAt, has_position}
use Rattle.versioned_shard.specs.Shards.{IsOneOf}
use Rattle.world_model.specs.declared.told.Told.{Told}
use Rattle.world_model.specs.declared.told.Told.TheVariants as told
use Rattle.world_model.specs.Asking.{BeginsSource}
use Rattle.world_model.specs.Events.{Setting}
use Rattle.world_model.specs.WorldState.{WorldState, ShardWithBuild, WorldQuery, live_fronts, fresh_query, unpinned, with_query}
use Rattle.world_model.specs.ShardSteps.{Advances}

-- exactly the positions of the live fronts strictly below a position, ascending, each once
pub record ListsOlder (live : ℕ → Option ℕ) (position : ℕ) (older : List ℕ) : Type 0 where
  pub ascending : ArePositionsInOrder older
  pub lists : (other : ℕ)
      → (has_position older other ≡ true) ↔ ((other < position) × StandsAt live other)

-- a query is opened at the end of the history, with a front there
pub record OpensAtEnd (z : Setting) (s : WorldState) (ask : Ask) (said : Told)
    (t : WorldState) : Type 0 where
  pub older : List ℕ
  pub lists : ListsOlder (live_fronts s.queries) (length s.history) older
  pub after : t
      ≡ record s { queries = s.queries ++ fresh_query z ask (length s.history) older ∷ [] }
  pub said_is : said ≡ told.Opened (length s.queries) (length s.history)

-- a source for each shard, of which nothing was read, given or begun
pub record AreSourcesBegun (z : Setting) (history : List JournalEntry) (query : WorldQuery)
    (sources : List Standing) : Type 0 where
  pub number : length sources ≡ z.shards
  pub each : (shard : ℕ) (source : Standing) → slice_get sources shard ≡ Some source
      → BeginsSource z history query shard source

-- the query with a layout pinned on a shard
abbrev pub with_pin : WorldQuery → ℕ → Laid → WorldQuery
with_pin query shard layout =
    record query { pinned = slice_set query.pinned shard (Some layout) }

-- after the last pin the front is closed and the sources begin; before it nothing more changes
pub record Completes (z : Setting) (history : List JournalEntry) (query after : WorldQuery)
    : Type 0 where
  pub sources : List Standing
  pub after_is : after ≡ (if nat_lt 0 (unpinned query) then query
      else record query { front = None; sources = sources })
  pub are_begun : unpinned query ≡ 0 → AreSourcesBegun z history query sources

-- the shard is brought to the query's front, and the version there is pinned
pub record PinsAtFront (z : Setting) (s : WorldState) (number shard : ℕ) (query after : WorldQuery)
    (t : WorldState) : Type 0 where
  pub not_pinned : slice_get query.pinned shard ≡ Some None
  pub place : ShardWithBuild
  pub mid : WorldState
  pub advances : Advances s number shard place mid
  pub version : Contents
  pub is_there : IsOneOf place.shard query.position version
  pub completes : Completes z s.history (with_pin query shard version.layout) after
  pub pinned : t ≡ with_query mid number after

-- the query has pinned the shard before, and nothing changes
pub record IsPinned (s : WorldState) (shard : ℕ) (query after : WorldQuery)
    (t : WorldState) : Type 0 where
  pub layout : Laid
  pub is_pinned : slice_get query.pinned shard ≡ Some (Some layout)
  pub after_is : after ≡ query
  pub same : t ≡ s

-- a shard is pinned, and it is said how many aren't
pub record Pins (z : Setting) (s : WorldState) (number shard : ℕ) (said : Told) (t : WorldState)
    : Type 0 where
  pub query : WorldQuery
  pub after : WorldQuery
  pub is_query : slice_get s.queries number ≡ Some query
  pub pins : IsPinned s shard query after t ⊎ PinsAtFront z s number shard query after t
  pub said_is : said ≡ told.Pinned (unpinned after)

-- a query is cancelled, and its front closed
pub record CancelsQuery (s : WorldState) (number : ℕ) (said : Told) (t : WorldState) : Type 0 where
  pub query : WorldQuery
  pub is_query : slice_get s.queries number ≡ Some query
  pub after : t ≡ with_query s number (record query { front = None; cancelled = true })
  pub said_is : said ≡ told.Cancelled query.given
