-- How many steps of upkeep an event may take, and a list of them.
use Rattle.std.specs.Prelude.{◌≡◌, ℕ, ◌+◌, ◌≤◌, List, [], ◌∷◌, length, min, Option, Some, None, slice_get}
use Rattle.world_model.specs.Events.{Setting, Event, Advance, Pin, BuildStart, BuildStep, Follow}
use Rattle.world_model.specs.Runs.{Answer}
use Rattle.world_model.specs.WorldState.{Rebuild, ShardWithBuild, WorldState}
use Rattle.world_model.specs.WorldStep.{WorldStep}
use Rattle.world_parts.specs.Builds.{entries_of_build, rows_of_build}
use Rattle.gph_world.specs.Behind.{entries_behind}

-- how many rows there are on a shard
abbrev pub rows_of_place : Option ShardWithBuild → ℕ
rows_of_place None = 0
rows_of_place (Some place) = length place.shard.current.rows

-- how many rows the current version of the shard of a number has
abbrev pub rows_there : WorldState → ℕ → ℕ
rows_there state shard = rows_of_place (slice_get state.places shard)

-- the build of a shard, if there are both
abbrev pub build_of_place : Option ShardWithBuild → Option Rebuild
build_of_place None = None
build_of_place (Some place) = place.build

-- how many rows of the build of a shard aren't placed
abbrev pub rows_unplaced : WorldState → ℕ → ℕ
rows_unplaced state shard = rows_of_build (build_of_place (slice_get state.places shard))

-- how many entries the build of a shard is behind the end of the history
abbrev pub entries_unfollowed : WorldState → ℕ → ℕ
entries_unfollowed state shard =
    entries_of_build (length state.history) (build_of_place (slice_get state.places shard))

-- the most steps that an event takes: one for each entry that a shard or a build is behind, or for
-- each row that a build reads or places
abbrev pub upkeep_most : WorldState → Event → ℕ
upkeep_most state (Advance query shard) = entries_behind state query shard
upkeep_most state (Pin query shard) = entries_behind state query shard
upkeep_most state (BuildStart shard layout) = rows_there state shard
upkeep_most state (BuildStep shard rows) = min rows (rows_unplaced state shard)
upkeep_most state (Follow shard) = entries_unfollowed state shard
upkeep_most state event = 0

-- events are met one after another, and upkeep rises from one number to another: by at most the sum
-- of what each event may take in the state that it met
abbrev pub RisesByEach : Setting → WorldState → List Event → List Answer → WorldState → ℕ → ℕ
    → Type 0
RisesByEach z s [] [] t from to = (t ≡ s) × (to ≤ from)
RisesByEach z s [] (answer ∷ answers) t from to = ⊥
RisesByEach z s (event ∷ events) [] t from to = ⊥
RisesByEach z s (event ∷ events) (answer ∷ answers) t from to =
    (mid : WorldState) × WorldStep z s event answer mid
    × RisesByEach z mid events answers t (from + upkeep_most s event) to
