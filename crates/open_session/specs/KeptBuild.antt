-- The build that a session has in memory: how it means the one of a state, and what it still costs.
use Rattle.std.specs.Prelude.{◌≡◌, ℕ, ◌<◌, ◌≤◌, Option, Some, None, IfSome}
use Rattle.version_draft.specs.Unfinished.{Unfinished}
use Rattle.session_desk.specs.Desks.{DeskState}
use Rattle.shard_rebuild.specs.ShardBuilds.{IsBuildOf}
use Rattle.session_model.specs.State.{Build}
use Rattle.open_session.specs.declared.shard_build.ShardBuild.{ShardBuild}

-- what is built for a shard is a version of that shard
pub record IsOfDesk {W : ℕ} (desk : DeskState) (kept : ShardBuild W) : Type 0 where
  pub inside : kept.shard < desk.config.shards
  pub of_shard : IsBuildOf desk kept.shard kept.build

-- the build in memory, where there is one, is of a shard of the desk
abbrev pub IsBuildOfDesk : {W : ℕ} → DeskState → Option (ShardBuild W) → Type 0
IsBuildOfDesk {W} desk kept = IfSome kept (IsOfDesk {W = W} desk)

-- what is of a desk's shards stays so
abbrev pub KeepsBuilds : DeskState → DeskState → Type 0
KeepsBuilds old new =
    (shard : ℕ) (build : Unfinished) → IsBuildOf old shard build → IsBuildOf new shard build

-- the build in memory is that of a state
pub record IsBuildKept {W : ℕ} (desk : DeskState) (kept : ShardBuild W) (build : Build)
    : Type 0 where
  pub shard : kept.shard ≡ build.shard
  pub of_desk : IsOfDesk desk kept
  pub layout : kept.build.contents.layout.parts ≡ build.layout
  pub left : kept.build.left ≡ build.left

-- so is the one that there is, or none
abbrev pub MeansBuild : {W : ℕ} → DeskState → Option (ShardBuild W) → Option Build → Type 0
MeansBuild desk None None = Unit {0}
MeansBuild desk None (Some build) = ⊥
MeansBuild desk (Some kept) None = ⊥
MeansBuild desk (Some kept) (Some build) = IsBuildKept desk kept build

-- how many rows of it are left to place
abbrev pub left_in : {W : ℕ} → Option (ShardBuild W) → ℕ
left_in None = 0
left_in (Some kept) = kept.build.left

-- it stands no earlier than this
abbrev pub StandsFrom : {W : ℕ} → ℕ → Option (ShardBuild W) → Type 0
StandsFrom told None = Unit {0}
StandsFrom told (Some kept) = told ≤ kept.build.contents.at
