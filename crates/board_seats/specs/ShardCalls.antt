-- What a call at a shard makes of it, and what it gives or takes.
use Rattle.std.specs.Prelude.{◌≡◌, ◌≢◌, ◌↔◌, ◌⊎◌, ℕ, ◌≤◌, Bool, true, false, length, Some}
use Rattle.part_layout.specs.declared.config.Config.{Config}
use Rattle.shard_version.specs.Contents.{Contents, IsVersion}
use Rattle.commit_journal.specs.Fronts.{FrontState}
use Rattle.commit_journal.specs.Journals.{JournalState}
use Rattle.versioned_shard.specs.Along.{Follows, version_at}
use Rattle.versioned_shard.specs.Shards.{ShardState, advanced, with_layout}
use Rattle.board_seats.specs.declared.rule.View.{View}

-- a shard came to a front, or stayed
abbrev pub CameTo : FrontState → ShardState → ShardState → Type 0
CameTo front old new = (new ≡ old) ⊎ (new ≡ advanced front old)

-- a version that the shard of a number gives at a position: one of the Config's shards and bits,
-- with the rows of so many entries of the journal
pub record IsGivenAt (config : Config) (journal : JournalState) (number position : ℕ)
    (version : Contents) : Type 0 where
  pub sound : IsVersion version
  pub shard_is : version.shard ≡ number
  pub shards_are : version.shards ≡ config.shards
  pub bits_are : version.layout.bits ≡ config.bits
  pub at : version.at ≡ position
  pub rows : version ≡ version_at journal.history version position

-- a version that was made apart for the shard of a number, along what the view has seen
pub record IsMadeApart {W : ℕ} (view : View W) (number : ℕ) (version : Contents) : Type 0 where
  pub config : Config
  pub config_is : view.config ≡ Some config
  pub shard_is : version.shard ≡ number
  pub shards_are : version.shards ≡ config.shards
  pub bits_are : version.layout.bits ≡ config.bits
  pub follows : Follows view.seen version
  pub within : version.at ≤ length view.seen

-- a shard has the layout of a version that stands at its position; or it stayed, exactly where that
-- stands at another
pub record PutsLayout (old new : ShardState) (version : Contents) (moved : Bool) : Type 0 where
  pub moved_is : moved ≡ true ↔ (version.at ≢ old.current.at)
  pub swapped : moved ≡ false → new ≡ with_layout old version.layout
  pub stays : moved ≡ true → new ≡ old
