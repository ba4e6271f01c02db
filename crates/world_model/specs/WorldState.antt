-- What a world is between two events: a history, the shards along it, and the queries on its
-- prefixes.
use Rattle.std.specs.Prelude.{ℕ, zero, suc, Bool, false, List, [], ◌∷◌, ◌+◌, length, filter, take, replicate, Option, Some, None, is_none, slice_get, slice_set}
use Rattle.hamming_model.specs.History.{JournalEntry, rows_of}
use Rattle.hamming_model.specs.Scan.{Ask, answer}
use Rattle.hamming_model.specs.declared.hit.Hit.{Hit}
use Rattle.part_layout.specs.Laid.{Laid}
use Rattle.shard_version.specs.Contents.{Contents, empty_of}
use Rattle.shard_version.specs.Prefixes.{prefix_of}
use Rattle.hit_source.specs.Sources.{Standing}
use Rattle.commit_journal.specs.Fronts.{FrontState, front_of}
use Rattle.versioned_shard.specs.Shards.{ShardState, shard_with}
use Rattle.world_model.specs.Events.{Setting}

-- a build of a shard: its version in the new layout, and how many of its rows aren't placed yet
pub record Rebuild : Type 0 where
  pub version : Contents
  pub left : ℕ

-- a shard with its current and kept versions, and its build
pub record ShardWithBuild : Type 0 where
  pub shard : ShardState
  pub build : Option Rebuild

-- a query: what it asks; how many entries it stands on; its front while that is open, which is the
-- positions of the live fronts that were below it; the layout that it pinned on each shard; where
-- its sources stand, once all shards are pinned; how many hits were given; whether it was cancelled
pub record WorldQuery : Type 0 where
  pub ask : Ask
  pub position : ℕ
  pub front : Option (List ℕ)
  pub pinned : List (Option Laid)
  pub sources : List Standing
  pub given : ℕ
  pub cancelled : Bool

-- the history, the shards, and the queries in the order of opening
pub record WorldState : Type 0 where
  pub history : List JournalEntry
  pub places : List ShardWithBuild
  pub queries : List WorldQuery

-- the shards from this one on, so many, on no entries, in one layout
abbrev pub empty_places : Setting → Laid → ℕ → ℕ → List ShardWithBuild
empty_places z layout shard zero = []
empty_places z layout shard (suc n) =
    record { shard = shard_with (empty_of shard z.shards layout) []; build = None }
    ∷ empty_places z layout (shard + 1) n

-- a world to which nothing happened
abbrev pub new_world : Setting → Laid → WorldState
new_world z layout =
    record { history = []; places = empty_places z layout 0 z.shards; queries = [] }

-- the state with another shard at a place
abbrev pub with_place : WorldState → ℕ → ShardWithBuild → WorldState
with_place s shard place = record s { places = slice_set s.places shard place }

-- the state with another query at a number
abbrev pub with_query : WorldState → ℕ → WorldQuery → WorldState
with_query s number query = record s { queries = slice_set s.queries number query }

-- the position of a query while its front is open
abbrev pub open_position : WorldQuery → Option ℕ
open_position query = elim query.front [ None ↦ None | Some older ↦ Some query.position ]

-- the positions of the live fronts, by the numbers of their queries
abbrev pub live_fronts : List WorldQuery → ℕ → Option ℕ
live_fronts queries number =
    elim (slice_get queries number) [ None ↦ None | Some query ↦ open_position query ]

-- the front of a query, with the positions of the older ones; its number and its session aren't
-- told
abbrev pub front_on : List JournalEntry → WorldQuery → List ℕ → FrontState
front_on history query older = front_of 0 0 older (take query.position history)

-- the version that a query has pinned on a shard in a layout: the shard's rows of its own prefix
abbrev pub pinned_version : Setting → List JournalEntry → WorldQuery → ℕ → Laid → Contents
pinned_version z history query shard layout =
    prefix_of shard z.shards layout (take query.position history)

-- how many shards a query hasn't pinned
abbrev pub unpinned : WorldQuery → ℕ
unpinned query = length (filter is_none query.pinned)

-- the whole answer to a query: that of the prefix on which it stands
abbrev pub answer_on : Setting → List JournalEntry → WorldQuery → List Hit
answer_on z history query = answer z.bits (rows_of (take query.position history)) query.ask

-- a query that was just opened at a position, with the live fronts below it
abbrev pub fresh_query : Setting → Ask → ℕ → List ℕ → WorldQuery
fresh_query z ask position older = record {
  ask = ask;
  position = position;
  front = Some older;
  pinned = replicate z.shards None;
  sources = [];
  given = 0;
  cancelled = false;
}
