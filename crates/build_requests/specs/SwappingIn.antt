-- What becomes of a build that is swapped in, between two moments of a session.
-- No public clause cites this module.
use Rattle.std.specs.Prelude.{◌≡◌, ℕ, ◌+◌, ◌-◌, ◌<◌, ◌≤◌, ◌⊎◌, true, length, Some, None}
use Rattle.query_protocol.specs.Requests.{bad}
use Rattle.query_protocol.specs.Replies.{LineReply}
use Rattle.query_protocol.specs.Replies as reply
use Rattle.session_desk.specs.Desks.{pinned_at}
use Rattle.shard_rebuild.specs.Swapping.{FindsMoved, LacksMemory, SwapsIn}
use Rattle.version_draft.specs.Unfinished.{Unfinished}
use Rattle.open_session.specs.declared.shard_build.ShardBuild.{ShardBuild}
use Rattle.open_session.specs.Moments.{Moment}
use Rattle.build_requests.specs.Rebuilding.{IsOverDesk, WasOtherBuild, kept_build}

-- the build has rows left, and nothing changes
pub record HadRowsLeft (W : ℕ) (old new : Moment W) (this : LineReply) : Type 0 where
  pub kept : ShardBuild W
  pub was : old.build ≡ Some kept
  pub left : 0 < kept.build.left
  pub same : new ≡ old
  pub told : this ≡ reply.Bad (bad 11)

-- the build had nothing left to place, and was to be swapped in
pub record HadPlaced (W : ℕ) (old new : Moment W) (shard : ℕ) (build : Unfinished) : Type 0 where
  pub was : old.build ≡ Some (kept_build shard build)
  pub placed : build.left ≡ 0
  pub over : IsOverDesk W old new shard

-- there was no memory to swap it in
pub record HasLacked (W : ℕ) (old new : Moment W) (this : LineReply) : Type 0 where
  pub shard : ℕ
  pub build : Unfinished
  pub had : HadPlaced W old new shard build
  pub back : Unfinished
  pub kept : new.build ≡ Some (kept_build shard back)
  pub lacks : LacksMemory old.desk new.desk shard build back
  pub position : new.position ≡ old.position
  pub steps : new.ledgers.upkeep ≤ old.ledgers.upkeep
      + (length new.desk.seen - pinned_at old.desk shard)
      + (length new.desk.seen - build.contents.at)
  pub told : this ≡ reply.NoMemory

-- it was swapped in
pub record HasSwapped (W : ℕ) (old new : Moment W) (this : LineReply) : Type 0 where
  pub shard : ℕ
  pub build : Unfinished
  pub had : HadPlaced W old new shard build
  pub gone : new.build ≡ None
  pub swaps : SwapsIn old.desk new.desk shard build new.position
  pub steps : new.ledgers.upkeep ≤ old.ledgers.upkeep
      + (new.position - pinned_at old.desk shard) + (new.position - build.contents.at)
  pub told : this ≡ reply.Swapped shard new.position

-- its shard stood beyond it, where another desk had brought it, and the build goes on
pub record HasMoved (W : ℕ) (old new : Moment W) (this : LineReply) : Type 0 where
  pub shard : ℕ
  pub build : Unfinished
  pub had : HadPlaced W old new shard build
  pub shard_at : ℕ
  pub back : Unfinished
  pub kept : new.build ≡ Some (kept_build shard back)
  pub finds : FindsMoved old.desk new.desk shard build new.position shard_at back
  pub shared : old.desk.alone ≡ true → ⊥
  pub steps : new.ledgers.upkeep ≤ old.ledgers.upkeep
      + (new.position - pinned_at old.desk shard) + (new.position - build.contents.at)
  pub told : this ≡ reply.Moved shard new.position shard_at

-- what becomes of a swap
abbrev pub SwapsInAs : (W : ℕ) → Moment W → Moment W → LineReply → Type 0
SwapsInAs W old new this =
    ((old.build ≡ None) × WasOtherBuild old new this)
    ⊎ (HadRowsLeft W old new this
    ⊎ (HasLacked W old new this ⊎ (HasMoved W old new this ⊎ HasSwapped W old new this)))
