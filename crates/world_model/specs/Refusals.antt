-- Why an event is refused: the first of the causes that holds.
use Rattle.std.specs.Prelude.{ℕ, ◌==◌, not, nat_le, nat_lt, if◌then◌else◌, Bool, List, [], ◌∷◌, length, Option, Some, None, is_none, is_some, slice_get}
use Rattle.std.specs.List.{list_any}
use Rattle.world_model.specs.declared.refused.Refused.{Refused}
use Rattle.world_model.specs.declared.refused.Refused.TheVariants.{NoShard, NoQuery, Closed, Many, Unfronted, NotPinned, Building, NoBuild, Unready, Moved}
use Rattle.world_model.specs.Events.{Setting, Event, Open, Advance, Poll, Give, BuildStart, BuildStep, Follow, Swap, query_named, shard_named}
use Rattle.world_model.specs.WorldState.{WorldState, WorldQuery, ShardWithBuild}

-- the most queries of a world
abbrev pub most_opened : ℕ
most_opened = 65536

-- a cause where a test holds
abbrev pub cause : Bool → Refused → Option Refused
cause holds why = if holds then Some why else None

-- the cause that a thing gives, if it is there
abbrev pub cause_of : {A : Type 0} → Option A → (A → Option Refused) → Option Refused
cause_of None test = None
cause_of (Some thing) test = test thing

-- the event names a shard that isn't there
abbrev pub lacks_shard : Setting → Event → Option Refused
lacks_shard z event = cause_of (shard_named event)
    (λ shard. cause (nat_le z.shards shard) NoShard)

-- the event names a query that wasn't opened
abbrev pub lacks_query : WorldState → Event → Option Refused
lacks_query s event =
    cause_of (query_named event) (λ number. cause (is_none (slice_get s.queries number)) NoQuery)

-- the query that an event names, where it was opened
abbrev pub query_asked : WorldState → Event → Option WorldQuery
query_asked s event =
    elim (query_named event) [ None ↦ None | Some number ↦ slice_get s.queries number ]

-- the query was cancelled
abbrev pub closed : WorldState → Event → Option Refused
closed s event = cause_of (query_asked s event) (λ query. cause query.cancelled Closed)

-- no query more is opened
abbrev pub many : WorldState → Event → Option Refused
many s (Open who ask) = cause (nat_le most_opened (length s.queries)) Many
many s event = None

-- the front by which a shard is to advance is closed
abbrev pub unfronted : WorldState → Event → Option Refused
unfronted s (Advance number shard) =
    cause_of (slice_get s.queries number) (λ query. cause (is_none query.front) Unfronted)
unfronted s event = None

-- a query hasn't pinned every shard
abbrev pub lacks_pin : WorldQuery → Option Refused
lacks_pin query = cause (list_any is_none query.pinned) NotPinned

-- a poll or a hit is asked of such a query
abbrev pub not_pinned : WorldState → Event → Option Refused
not_pinned s (Poll number shard budget) = cause_of (slice_get s.queries number) lacks_pin
not_pinned s (Give number) = cause_of (slice_get s.queries number) lacks_pin
not_pinned s event = None

-- a build is to begin where there is one
abbrev pub building : WorldState → Event → Option Refused
building s (BuildStart shard layout) =
    cause_of (slice_get s.places shard) (λ place. cause (is_some place.build) Building)
building s event = None

-- what a place gives to an event that needs a build
abbrev pub of_built : WorldState → (ShardWithBuild → Option Refused) → Event → Option Refused
of_built s test (Follow shard) = cause_of (slice_get s.places shard) test
of_built s test (Swap shard) = cause_of (slice_get s.places shard) test
of_built s test event = None

-- a shard without a build
abbrev pub lacks_build : ShardWithBuild → Option Refused
lacks_build place = cause (is_none place.build) NoBuild

-- an event needs a build where there is none
abbrev pub no_build : WorldState → Event → Option Refused
no_build s (BuildStep shard rows) = cause_of (slice_get s.places shard) lacks_build
no_build s event = of_built s lacks_build event

-- a build with rows that aren't placed
abbrev pub has_left : ShardWithBuild → Option Refused
has_left place =
    cause_of place.build (λ build. cause (nat_lt 0 build.left) (Unready build.left))

-- a build is to follow or to be swapped in before all its rows are placed
abbrev pub unready : WorldState → Event → Option Refused
unready s event = of_built s has_left event

-- a build that stands at another position than its shard
abbrev pub stands_apart : ShardWithBuild → Option Refused
stands_apart place = cause_of place.build
    (λ build. cause (not (build.version.at == place.shard.current.at))
    (Moved place.shard.current.at))

-- such a build is to be swapped in
abbrev pub moved : WorldState → Event → Option Refused
moved s (Swap shard) = cause_of (slice_get s.places shard) stands_apart
moved s event = None

-- the first of these causes that there is
abbrev pub first_cause : List (Option Refused) → Option Refused
first_cause [] = None
first_cause (None ∷ causes) = first_cause causes
first_cause (Some why ∷ causes) = Some why

-- why an event is refused: of the causes, in this order, the first; want of memory is none of them
abbrev pub refusal : Setting → WorldState → Event → Option Refused
refusal z s event = first_cause (
    lacks_shard z event ∷ lacks_query s event ∷ closed s event ∷ many s event ∷ unfronted s event
    ∷ not_pinned s event ∷ building s event ∷ no_build s event ∷ unready s event
    ∷ moved s event ∷ [])
