-- What calls do with a shard's build.
use Rattle.std.specs.Prelude.{◌≡◌, ◌⊎◌, ℕ, ◌-◌, ◌<◌, ◌≤◌, List, length, false, true}
use Rattle.std.specs.Prelude.{is_some, Option, Some, None, Result, Ok, Err}
use Rattle.hamming_model.specs.History.{JournalEntry}
use Rattle.hamming_model.specs.Recoded.{AreStoredEntries}
use Rattle.part_layout.specs.Laid.{Laid}
use Rattle.version_draft.specs.Unfinished.{Unfinished, begun, with_placed}
use Rattle.versioned_shard.specs.Along.{Follows, version_at}
use Rattle.repartitioner.specs.Builds.{placed_all}
use Rattle.world_model.specs.declared.refused.Refused.{Refused}
use Rattle.world_model.specs.declared.refused.Refused.TheVariants as refused
use Rattle.world_model.specs.declared.told.Told.{Told}
use Rattle.world_model.specs.declared.told.Told.TheVariants as told
use Rattle.world_model.specs.WorldState.{Rebuild}
use Rattle.world_parts.specs.declared.place.Place.{Place}

-- the shard with this build
abbrev pub with_draft : {W : ℕ} → Place W → Unfinished → Place W
with_draft place build = record place { build = Some build }

-- there is no build
pub record LacksDraft {W : ℕ} (old : Place W) (why : Refused) : Type 0 where
  pub none : old.build ≡ None
  pub why_is : why ≡ refused.NoBuild

-- ---- it begins

-- a build was begun in a layout
pub record BeginsDraft {W : ℕ} (layout : Laid) (old new : Place W) (said : Told) : Type 0 where
  pub none : is_some old.build ≡ false
  pub after : new ≡ with_draft old (begun old.shard.current layout)
  pub said_is : said ≡ told.Built (length old.shard.current.rows)

-- none was begun: one goes on already, or there was no memory
pub record BeginsNoDraft {W : ℕ} (old : Place W) (why : Refused) : Type 0 where
  pub causes : ((is_some old.build ≡ true) × (why ≡ refused.Building))
      ⊎ ((is_some old.build ≡ false) × (why ≡ refused.NoMemory))

-- a build is begun, or why not
abbrev pub BeginsAs : {W : ℕ} → Laid → Place W → Place W → Result Told Refused → Type 0
BeginsAs layout old new (Ok said) = BeginsDraft layout old new said
BeginsAs layout old new (Err why) = (new ≡ old) × BeginsNoDraft old why

-- ---- it places rows

-- a build has placed so many rows more
pub record PlacesMore {W : ℕ} (rows : ℕ) (old new : Place W) (said : Told) : Type 0 where
  pub build : Unfinished
  pub is_build : old.build ≡ Some build
  pub after : new ≡ with_draft old (with_placed build rows)
  pub said_is : said ≡ told.Built (build.left - rows)

-- rows are placed, or why not
abbrev pub PlacesRowsAs : {W : ℕ} → ℕ → Place W → Place W → Result Told Refused → Type 0
PlacesRowsAs rows old new (Ok said) = PlacesMore rows old new said
PlacesRowsAs rows old new (Err why) = (new ≡ old) × LacksDraft old why

-- ---- it follows the history

-- a build may follow a history that words keep
pub record MayFollow (words : ℕ) (history : List JournalEntry) (build : Unfinished) : Type 0 where
  pub within : build.contents.at ≤ length history
  pub follows : Follows history build.contents
  pub codes : AreStoredEntries words build.contents.layout.bits history

-- a build has followed to the end of the history
pub record ComesToEnd {W : ℕ} (history : List JournalEntry) (old new : Place W)
    (said : Told) : Type 0 where
  pub build : Unfinished
  pub is_build : old.build ≡ Some build
  pub placed : build.left ≡ 0
  pub after : new
      ≡ with_draft old (placed_all (version_at history build.contents (length history)))
  pub said_is : said ≡ told.Followed (length history)

-- it doesn't follow: rows are left, or there was no memory
pub record StaysBehind {W : ℕ} (old : Place W) (why : Refused) : Type 0 where
  pub build : Unfinished
  pub is_build : old.build ≡ Some build
  pub causes : ((0 < build.left) × (why ≡ refused.Unready build.left))
      ⊎ ((build.left ≡ 0) × (why ≡ refused.NoMemory))

-- a build follows, or why not
abbrev pub FollowsAs : {W : ℕ} → List JournalEntry → Place W → Place W
    → Result Told Refused → Type 0
FollowsAs history old new (Ok said) = ComesToEnd history old new said
FollowsAs history old new (Err why) = (new ≡ old) × (LacksDraft old why ⊎ StaysBehind old why)

-- ---- what is left of it

-- how many rows of a build aren't placed
abbrev pub rows_of_build : Option Rebuild → ℕ
rows_of_build None = 0
rows_of_build (Some build) = build.left

-- how many of so many entries a build hasn't taken in
abbrev pub entries_of_build : ℕ → Option Rebuild → ℕ
entries_of_build entries None = 0
entries_of_build entries (Some build) = entries - build.version.at
