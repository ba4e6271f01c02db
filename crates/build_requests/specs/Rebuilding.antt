-- What becomes of a build that is started or placed, between two moments of a session.
-- No public clause cites this module.
use Rattle.std.specs.Prelude.{◌≡◌, ℕ, ◌+◌, ◌-◌, ◌≤◌, ◌⊎◌, min, length, Some, None}
use Rattle.part_layout.specs.Laid.{Laid}
use Rattle.query_protocol.specs.Requests.{bad}
use Rattle.query_protocol.specs.Replies.{LineReply}
use Rattle.query_protocol.specs.Replies as reply
use Rattle.query_opening.specs.Pinning.{ComesOn}
use Rattle.session_desk.specs.Desks.{IsDesk, pinned_at}
use Rattle.shard_rebuild.specs.ShardBuilds.{BeginsBuild, IsBuildOf, KeepsOtherPins}
use Rattle.version_draft.specs.Unfinished.{Unfinished, with_placed}
use Rattle.open_session.specs.declared.shard_build.ShardBuild.{ShardBuild}
use Rattle.open_session.specs.Moments.{Moment}

-- a build that is kept for a shard
abbrev pub kept_build : {W : ℕ} → ℕ → Unfinished → ShardBuild W
kept_build {W} shard build = record { shard = shard; build = build }

-- a build goes on already, or none does, and nothing changes
pub record WasOtherBuild {W : ℕ} (old new : Moment W) (this : LineReply) : Type 0 where
  pub same : new ≡ old
  pub told : this ≡ reply.Bad (bad 10)

-- the desk before and after, each as every desk is, and what else the request leaves
pub record IsOverDesk (W : ℕ) (old new : Moment W) (shard : ℕ) : Type 0 where
  pub before : IsDesk W old.desk
  pub after : IsDesk W new.desk
  pub others : KeepsOtherPins old.desk new.desk shard
  pub cursors : new.cursors ≡ old.cursors
  pub pinned : new.pinned ≡ old.pinned
  pub samples : new.samples ≡ old.samples
  pub reads : new.ledgers.reads ≡ old.ledgers.reads

-- there was no memory to start a build
pub record HadNoBuild (W : ℕ) (old new : Moment W) (shard : ℕ) (this : LineReply) : Type 0 where
  pub none : old.build ≡ None
  pub over : IsOverDesk W old new shard
  pub comes : ComesOn old.desk new.desk
  pub build : new.build ≡ None
  pub position : new.position ≡ old.position
  pub steps : new.ledgers.upkeep ≤ old.ledgers.upkeep
      + (length new.desk.seen - pinned_at old.desk shard) + length new.desk.seen
  pub told : this ≡ reply.NoMemory

-- a build was started
pub record HasStarted (W : ℕ) (old new : Moment W) (shard : ℕ) (layout : Laid) (this : LineReply)
    : Type 0 where
  pub none : old.build ≡ None
  pub over : IsOverDesk W old new shard
  pub comes : ComesOn old.desk new.desk
  pub build : Unfinished
  pub kept : new.build ≡ Some (kept_build shard build)
  pub begins : BeginsBuild old.desk new.desk shard layout build
  pub of_shard : IsBuildOf new.desk shard build
  pub position : new.position ≡ build.contents.at
  pub steps : new.ledgers.upkeep ≤ old.ledgers.upkeep
      + (build.contents.at - pinned_at old.desk shard) + build.left
  pub told : this ≡ reply.Building shard build.left build.contents.at

-- what becomes of a start
abbrev pub StartsAs : (W : ℕ) → Moment W → Moment W → ℕ → Laid → LineReply → Type 0
StartsAs W old new shard layout this =
    ((kept : ShardBuild W) × (old.build ≡ Some kept) × WasOtherBuild old new this)
    ⊎ (HadNoBuild W old new shard this ⊎ HasStarted W old new shard layout this)

-- rows of the build were placed
pub record HasPlaced (W : ℕ) (old new : Moment W) (number : ℕ) (this : LineReply) : Type 0 where
  pub shard : ℕ
  pub build : Unfinished
  pub was : old.build ≡ Some (kept_build shard build)
  pub after : new ≡ record old {
    build = Some (kept_build shard (with_placed build number));
    ledgers = new.ledgers;
  }
  pub reads : new.ledgers.reads ≡ old.ledgers.reads
  pub steps : new.ledgers.upkeep ≡ old.ledgers.upkeep + min number build.left
  pub told : this ≡ reply.Built shard (build.left - number)

-- what becomes of rows to place
abbrev pub PlacesAs : (W : ℕ) → Moment W → Moment W → ℕ → LineReply → Type 0
PlacesAs W old new number this =
    ((old.build ≡ None) × WasOtherBuild old new this) ⊎ HasPlaced W old new number this
