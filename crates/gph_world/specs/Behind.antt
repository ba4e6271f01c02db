-- How far a shard is behind a query.
use Rattle.std.specs.Prelude.{ℕ, ◌-◌, Option, Some, None, slice_get}
use Rattle.world_model.specs.WorldState.{ShardWithBuild, WorldQuery, WorldState}

-- how many entries a query stands on beyond those that a shard has, where there are both
abbrev pub behind_of : Option WorldQuery → Option ShardWithBuild → ℕ
behind_of None place = 0
behind_of (Some held) None = 0
behind_of (Some held) (Some place) = held.position - place.shard.current.at

-- how many entries the shard of a number is behind the query of a number
abbrev pub entries_behind : WorldState → ℕ → ℕ → ℕ
entries_behind state query shard =
    behind_of (slice_get state.queries query) (slice_get state.places shard)
