-- What a swap of a build makes of a desk and of the build.
use Rattle.std.specs.Prelude.{◌≡◌, ℕ, ◌<◌, ◌≤◌, length, slice_set}
use Rattle.part_layout.specs.Laid.{Laid}
use Rattle.version_draft.specs.Unfinished.{Unfinished}
use Rattle.session_desk.specs.Calls.{one_more}
use Rattle.session_desk.specs.Desks.{DeskState, left_at, pinned_at, place_at}
use Rattle.query_opening.specs.Pinning.{ComesOn}
use Rattle.shard_rebuild.specs.ShardBuilds.{IsBuildOf}
use Rattle.shard_rebuild.specs.declared.answer.SwapAnswer.{SwapAnswer}
use Rattle.shard_rebuild.specs.declared.answer.SwapAnswer.TheVariants.{Swapped, Moved, NoMemory}

-- a desk with one swap more done, a shard of it in this layout
abbrev pub with_swap : DeskState → ℕ → Laid → DeskState
with_swap desk shard layout = record desk {
  done = one_more desk.done;
  places = slice_set desk.places shard ((place_at desk shard).0, layout);
}

-- a desk with one swap more that came late
abbrev pub with_late : DeskState → DeskState
with_late desk = record desk { late = one_more desk.late }

-- a desk came on, and pinned a shard at the position of the front that it opened last
pub record ComesByFront (old new : DeskState) (shard position : ℕ) : Type 0 where
  pub comes : ComesOn old new
  pub last : new.last ≡ position
  pub after : length old.seen ≤ position
  pub within : position ≤ length new.seen
  pub pinned : pinned_at new shard ≡ position

-- a build that goes on: of the shard, in the layout of the one before and no further back than
-- that, with nothing left to place
pub record BuildGoesOn (new : DeskState) (shard : ℕ) (build back : Unfinished) : Type 0 where
  pub of_shard : IsBuildOf new shard back
  pub layout : back.contents.layout ≡ build.contents.layout
  pub never_back : build.contents.at ≤ back.contents.at
  pub placed : back.left ≡ 0

-- a build was swapped in: the shard stands at the front, in the build's layout
pub record SwapsIn (old new : DeskState) (shard : ℕ) (build : Unfinished) (at : ℕ) : Type 0 where
  pub comes : ComesByFront (with_swap old shard build.contents.layout) new shard at
  pub stands : left_at new shard ≡ at

-- a build came to a front, beyond which another desk had brought the shard
pub record FindsMoved (old new : DeskState) (shard : ℕ) (build : Unfinished) (front shard_at : ℕ)
    (back : Unfinished) : Type 0 where
  pub comes : ComesByFront (with_late old) new shard front
  pub stands : left_at new shard ≡ shard_at
  pub beyond : front < shard_at
  pub goes_on : BuildGoesOn new shard build back
  pub at : back.contents.at ≡ front

-- there was no memory, and the shard and the build may have come on
pub record LacksMemory (old new : DeskState) (shard : ℕ) (build back : Unfinished)
    : Type 0 where
  pub comes : ComesOn old new
  pub goes_on : BuildGoesOn new shard build back

-- ---- by the answer

-- where the answer is that the build was swapped in
abbrev pub IfSwapped : {W : ℕ} → SwapAnswer W → (ℕ → Type 0) → Type 0
IfSwapped (Swapped at) P = P at
IfSwapped (Moved front shard_at back) P = Unit {0}
IfSwapped (NoMemory back) P = Unit {0}

-- where the answer is that the shard was beyond the front
abbrev pub IfMoved : {W : ℕ} → SwapAnswer W → (ℕ → ℕ → Unfinished → Type 0) → Type 0
IfMoved (Swapped at) P = Unit {0}
IfMoved (Moved front shard_at back) P = P front shard_at back
IfMoved (NoMemory back) P = Unit {0}

-- where the answer is that there was no memory
abbrev pub IfNoMemory : {W : ℕ} → SwapAnswer W → (Unfinished → Type 0) → Type 0
IfNoMemory (Swapped at) P = Unit {0}
IfNoMemory (Moved front shard_at back) P = Unit {0}
IfNoMemory (NoMemory back) P = P back

-- the position of the front where the answer tells it, and else the length of what was seen
abbrev pub front_in : {W : ℕ} → SwapAnswer W → ℕ → ℕ
front_in (Swapped at) seen = at
front_in (Moved front shard_at back) seen = front
front_in (NoMemory back) seen = seen
