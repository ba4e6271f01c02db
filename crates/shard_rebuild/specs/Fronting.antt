-- What becomes of a shard and a build at a front while it is open, and of the swap after it.
-- No public clause cites this module.
use Rattle.std.specs.Prelude.{◌≡◌, ℕ, true, false}
use Rattle.part_layout.specs.Laid.{Laid}
use Rattle.shard_version.specs.Contents.{Contents, IsVersion}
use Rattle.version_draft.specs.Unfinished.{Unfinished, begun}
use Rattle.repartitioner.specs.Builds.{placed_all}
use Rattle.session_desk.specs.Calls.{Swaps}
use Rattle.session_desk.specs.Desks.{DeskState, left_at, pinned_at, place_at}
use Rattle.query_opening.specs.Pinning.{IsPinnedShard}
use Rattle.shard_rebuild.specs.declared.answer.SwapAnswer.{SwapAnswer}
use Rattle.shard_rebuild.specs.declared.answer.SwapAnswer.TheVariants.{Swapped, Moved, NoMemory}

-- a build was begun in a layout, of the version of a shard that was pinned at a position
pub record BeginsAt (old new : DeskState) (position shard : ℕ) (layout : Laid)
    (build : Unfinished) : Type 0 where
  pub version : Contents
  pub pinned : IsPinnedShard old new position shard version
  pub begins : build ≡ begun version layout
  pub sound : IsVersion build.contents

-- a shard was pinned at a position, to which a build came; where the desk is alone the shard stands
-- there
pub record MeetsAt (new : DeskState) (position shard : ℕ) (build : Unfinished) : Type 0 where
  pub pinned : pinned_at new shard ≡ position
  pub at : build.contents.at ≡ position
  pub alone : new.alone ≡ true → (place_at new shard).0 ≡ position

-- what the desk's one swap made of it, and of the build that was finished for it
abbrev pub SwapsAs : {W : ℕ} → DeskState → DeskState → ℕ → Unfinished → ℕ → SwapAnswer W → Type 0
SwapsAs mid new shard build position (Swapped at) =
    (at ≡ position) × Swaps mid new shard build.contents false
SwapsAs mid new shard build position (Moved front shard_at back) =
    (front ≡ position) × ((shard_at ≡ left_at new shard)
    × ((back ≡ placed_all build.contents) × Swaps mid new shard build.contents true))
SwapsAs mid new shard build position (NoMemory back) = (new ≡ mid) × (back ≡ build)
