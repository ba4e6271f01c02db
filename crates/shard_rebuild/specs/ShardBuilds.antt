-- A build of a shard that a session keeps between its calls, and how it was started.
use Rattle.std.specs.Prelude.{◌≡◌, ◌≢◌, ℕ, ◌≤◌, List, ◌++◌, length, take, None, slice_index_or}
use Rattle.hamming_model.specs.History.{JournalEntry, rows_of, shard_rows}
use Rattle.part_layout.specs.Laid.{Laid}
use Rattle.shard_version.specs.Contents.{Contents}
use Rattle.version_draft.specs.Unfinished.{Unfinished, begun}
use Rattle.session_desk.specs.Calls.{IsMadeFor}
use Rattle.session_desk.specs.Desks.{DeskState, seen_history}
use Rattle.query_opening.specs.Pinning.{IsPinnedShard}

-- a build of a shard: it becomes a version of the shard, with its rows of the first entries that
-- the desk has seen, up to the build's position, and in codes of the desk's bits
abbrev pub IsBuildOf : DeskState → ℕ → Unfinished → Type 0
IsBuildOf desk shard build = IsMadeFor desk shard build.contents

-- what was seen before begins what is seen after, under one Config
pub record SeesMore (old new : DeskState) : Type 0 where
  pub more : List JournalEntry
  pub longer : new.seen ≡ old.seen ++ more
  pub config : new.config ≡ old.config

-- the last pins of all other shards are as before
abbrev pub KeepsOtherPins : DeskState → DeskState → ℕ → Type 0
KeepsOtherPins old new shard = (other : ℕ) → other ≢ shard
    → slice_index_or new.pins other None ≡ slice_index_or old.pins other None

-- a build was started at the position of a front, the last one that was opened, of the version that
-- was pinned there: in another layout, with no row of the shard placed
pub record BeginsBuild (old new : DeskState) (shard : ℕ) (layout : Laid) (build : Unfinished)
    : Type 0 where
  pub version : Contents
  pub pinned : IsPinnedShard old new build.contents.at shard version
  pub begins : build ≡ begun version layout
  pub last : new.last ≡ build.contents.at
  pub after : length old.seen ≤ build.contents.at
  pub left : build.left ≡ length (shard_rows shard old.config.shards
      (rows_of (take build.contents.at (seen_history new))))
