-- How a shard is given the layout of its build.
use Rattle.std.specs.Prelude.{◌≡◌, ◌≢◌, ◌⊎◌, ℕ, ◌<◌, IfSome, Some, None, Result, Ok, Err}
use Rattle.version_draft.specs.Unfinished.{Unfinished}
use Rattle.versioned_shard.specs.Shards.{MayStandIn, with_layout}
use Rattle.world_model.specs.declared.refused.Refused.{Refused}
use Rattle.world_model.specs.declared.refused.Refused.TheVariants as refused
use Rattle.world_model.specs.declared.told.Told.{Told}
use Rattle.world_model.specs.declared.told.Told.TheVariants as told
use Rattle.world_parts.specs.Builds.{LacksDraft}
use Rattle.world_parts.specs.declared.place.Place.{Place}

-- the shard in the layout of its build, which is gone
abbrev pub swapped_in : {W : ℕ} → Place W → Unfinished → Place W
swapped_in place build =
    record place { shard = with_layout place.shard build.contents.layout; build = None }

-- a build of the shard may stand in for it
abbrev pub MayBeSwapped : {W : ℕ} → Place W → Type 0
MayBeSwapped place = IfSome place.build (λ build. MayStandIn place.shard build.contents)

-- the build's layout is the shard's, and the build is gone
pub record TakesLayout {W : ℕ} (old new : Place W) (said : Told) : Type 0 where
  pub build : Unfinished
  pub is_build : old.build ≡ Some build
  pub placed : build.left ≡ 0
  pub one_place : build.contents.at ≡ old.shard.current.at
  pub after : new ≡ swapped_in old build
  pub said_is : said ≡ told.Swapped old.shard.current.at

-- it isn't: rows are left, or the build stands apart from its shard, or there was no memory
pub record KeepsLayout {W : ℕ} (old : Place W) (why : Refused) : Type 0 where
  pub build : Unfinished
  pub is_build : old.build ≡ Some build
  pub causes : ((0 < build.left) × (why ≡ refused.Unready build.left))
      ⊎ (((build.left ≡ 0) × (build.contents.at ≢ old.shard.current.at)
      × (why ≡ refused.Moved old.shard.current.at))
      ⊎ ((build.left ≡ 0) × (build.contents.at ≡ old.shard.current.at)
      × (why ≡ refused.NoMemory)))

-- a build is swapped in, or why not
abbrev pub TakesLayoutAs : {W : ℕ} → Place W → Place W → Result Told Refused → Type 0
TakesLayoutAs old new (Ok said) = TakesLayout old new said
TakesLayoutAs old new (Err why) = (new ≡ old) × (LacksDraft old why ⊎ KeepsLayout old why)
