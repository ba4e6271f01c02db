-- What a query, a shard and its build are seen as, in the definitions' words.
use Rattle.std.specs.Prelude.{ℕ, List, [], map, Option, Some, None, option_map}
use Rattle.std.specs.declared.alloc.Global.{Global}
use Rattle.std.specs.declared.sync.Arc.{Arc}
use Rattle.part_layout.specs.Laid.{Laid}
use Rattle.shard_version.specs.Tables.{Tabled}
use Rattle.version_draft.specs.Unfinished.{Unfinished}
use Rattle.hit_source.specs.Sources.{Standing}
use Rattle.versioned_shard.specs.Shards.{contents_at}
use Rattle.scatter_gather.specs.Gathering.{Gathered}
use Rattle.world_model.specs.WorldState.{Rebuild, ShardWithBuild, WorldQuery}
use Rattle.world_parts.specs.Asks.{ask_seen}
use Rattle.world_parts.specs.Sources.{QuerySource, standing_told}
use Rattle.world_parts.specs.declared.held.Held.{Held}
use Rattle.world_parts.specs.declared.place.Place.{Place}

-- the layout of a pinned version
abbrev pub layout_pinned : Option (Arc Tabled Global) → Option Laid
layout_pinned pin = option_map (λ version. (contents_at version).layout) pin

-- where the sources stand, if there are any
abbrev pub standings_held : {W : ℕ} → Option (Gathered (QuerySource W)) → List Standing
standings_held None = []
standings_held (Some g) = map standing_told g.sources

-- how many hits were given
abbrev pub given_by : {W : ℕ} → Option (Gathered (QuerySource W)) → ℕ
given_by None = 0
given_by (Some g) = g.given

-- a query as it is seen, by what is known of its versions and sources
abbrev pub query_seen : {W : ℕ} → ℕ → Held W → WorldQuery
query_seen bits held = record {
  ask = ask_seen bits held.ask;
  position = held.position;
  front = option_map (λ front. front.older) held.front;
  pinned = map layout_pinned held.pinned.value.items;
  sources = standings_held held.gathered.value;
  given = given_by held.gathered.value;
  cancelled = held.cancelled;
}

-- a build as it is seen
abbrev pub build_seen : Unfinished → Rebuild
build_seen build = record { version = build.contents; left = build.left }

-- a shard with its build as it is seen
abbrev pub place_seen : {W : ℕ} → Place W → ShardWithBuild
place_seen place =
    record { shard = place.shard; build = option_map build_seen place.build }
