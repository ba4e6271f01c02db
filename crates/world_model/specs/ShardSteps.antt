-- What the events on the history and on shards do: commits, advances, builds.
use Rattle.std.specs.Prelude.{◌≡◌, ℕ, ◌-◌, List, length, Some, None, slice_get}
use Rattle.hamming_model.specs.History.{Operation, after_decision, decision_on}
use Rattle.part_layout.specs.Laid.{Laid}
use Rattle.shard_version.specs.Contents.{Contents}
use Rattle.entry_log.specs.Decisions.{decision_of}
use Rattle.commit_journal.specs.declared.decided.Decided.{Decided}
use Rattle.versioned_shard.specs.Along.{version_at}
use Rattle.versioned_shard.specs.Shards.{advanced, with_layout}
use Rattle.world_model.specs.declared.told.Told.{Told}
use Rattle.world_model.specs.declared.told.Told.TheVariants as told
use Rattle.world_model.specs.Events.{Setting}
use Rattle.world_model.specs.WorldState.{WorldState, ShardWithBuild, Rebuild, WorldQuery, front_on, with_place}

-- an operation is decided on the history, and stands in it where it was accepted
pub record CommitsEntry (z : Setting) (s : WorldState) (who : ℕ) (operation : Operation)
    (said : Told) (t : WorldState) : Type 0 where
  pub decided : Decided
  pub decision : decision_of decided.decision ≡ decision_on s.history z.limit operation
  pub after : t ≡ record s {
    history = after_decision s.history
        (record { who = who; operation = operation }) (decision_of decided.decision);
  }
  pub position : decided.position ≡ length t.history
  pub said_is : said ≡ told.Decided decided

-- a query's front while it is open, by the positions of the older ones
pub record HasFront (s : WorldState) (number : ℕ) (query : WorldQuery)
    (older : List ℕ) : Type 0 where
  pub is_query : slice_get s.queries number ≡ Some query
  pub is_open : query.front ≡ Some older

-- a shard is brought to a query's front, which leaves this place
pub record Advances (s : WorldState) (number shard : ℕ) (after : ShardWithBuild)
    (t : WorldState) : Type 0 where
  pub query : WorldQuery
  pub older : List ℕ
  pub fronted : HasFront s number query older
  pub before : ShardWithBuild
  pub is_place : slice_get s.places shard ≡ Some before
  pub after_is : after
      ≡ record before { shard = advanced (front_on s.history query older) before.shard }
  pub advanced_is : t ≡ with_place s shard after

-- and it is said where the shard stands
pub record AdvancesTo (s : WorldState) (number shard : ℕ) (said : Told)
    (t : WorldState) : Type 0 where
  pub after : ShardWithBuild
  pub advances : Advances s number shard after t
  pub said_is : said ≡ told.Advanced after.shard.current.at

-- the place with this build
abbrev pub with_build : ShardWithBuild → Contents → ℕ → ShardWithBuild
with_build place version left =
    record place { build = Some (record { version = version; left = left }) }

-- a build begins on the shard's current version, in a layout, with every row to be placed
pub record StartsBuild (s : WorldState) (shard : ℕ) (layout : Laid) (said : Told) (t : WorldState)
    : Type 0 where
  pub place : ShardWithBuild
  pub is_place : slice_get s.places shard ≡ Some place
  pub after : t ≡ with_place s shard (with_build place
      (record place.shard.current { layout = layout }) (length place.shard.current.rows))
  pub said_is : said ≡ told.Built (length place.shard.current.rows)

-- a shard and its build
pub record HasBuild (s : WorldState) (shard : ℕ) (place : ShardWithBuild)
    (build : Rebuild) : Type 0 where
  pub is_place : slice_get s.places shard ≡ Some place
  pub is_build : place.build ≡ Some build

-- a build places so many rows more, or all that are left
pub record PlacesRows (s : WorldState) (shard rows : ℕ) (said : Told)
    (t : WorldState) : Type 0 where
  pub place : ShardWithBuild
  pub build : Rebuild
  pub has : HasBuild s shard place build
  pub after : t
      ≡ with_place s shard (with_build place build.version (build.left - rows))
  pub said_is : said ≡ told.Built (build.left - rows)

-- a build follows the history to its end
pub record FollowsHistory (s : WorldState) (shard : ℕ) (said : Told) (t : WorldState) : Type 0 where
  pub place : ShardWithBuild
  pub build : Rebuild
  pub has : HasBuild s shard place build
  pub after : t ≡ with_place s shard
      (with_build place (version_at s.history build.version (length s.history)) 0)
  pub said_is : said ≡ told.Followed (length s.history)

-- a build gives the shard its layout, and is gone; nothing else changes
pub record SwapsLayout (s : WorldState) (shard : ℕ) (said : Told) (t : WorldState) : Type 0 where
  pub place : ShardWithBuild
  pub build : Rebuild
  pub has : HasBuild s shard place build
  pub after : t ≡ with_place s shard
      (record { shard = with_layout place.shard build.version.layout; build = None })
  pub said_is : said ≡ told.Swapped place.shard.current.at
