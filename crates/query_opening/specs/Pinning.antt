-- What pinning every shard of a desk at one position makes of it.
use Rattle.std.specs.Prelude.{◌≡◌, ℕ, zero, suc, ◌+◌, ◌-◌, ◌<◌, ◌≤◌, true, List, map, length, Option, Some, None, slice_index_or}
use Rattle.std.specs.declared.alloc.Global.{Global}
use Rattle.std.specs.declared.sync.Arc.{Arc}
use Rattle.part_layout.specs.Text.{layout_text}
use Rattle.shard_version.specs.Contents.{Contents}
use Rattle.shard_version.specs.Tables.{Tabled}
use Rattle.versioned_shard.specs.Shards.{contents_at}
use Rattle.session_desk.specs.Calls.{Learns}
use Rattle.session_desk.specs.Desks.{DeskState, IsVersionOf, Pin, pin_position, pinned_at, place_at}

-- how many entries the first so many shards are behind a position, counted from their last pins
abbrev pub behind : List (Option Pin) → ℕ → ℕ → ℕ
behind pins position zero = 0
behind pins position (suc shard) =
    behind pins position shard + (position - pin_position (slice_index_or pins shard None))

-- the contents of shared versions
abbrev pub contents_of_all : List (Arc Tabled Global) → List Contents
contents_of_all versions = map contents_at versions

-- shards came on, others may have added entries, a front was opened and closed,
-- and nothing else changed
pub record ComesOn (old new : DeskState) : Type 0 where
  pub learns : Learns old new.seen
  pub board : new.board ≡ old.board
  pub who : new.who ≡ old.who
  pub config : new.config ≡ old.config
  pub fronts : new.fronts ≡ old.fronts
  pub done : new.done ≡ old.done
  pub late : new.late ≡ old.late
  pub alone : new.alone ≡ old.alone
  pub number : length new.pins ≡ length old.pins
  pub rises : (shard : ℕ) → pinned_at old shard ≤ length old.seen
      → pinned_at old shard ≤ pinned_at new shard
  pub layouts : old.alone ≡ true → (shard : ℕ) → (place_at new shard).1 ≡ (place_at old shard).1

-- a shard was pinned at a position: its version there, the desk's last pin of it, and where the
-- desk is alone the layout in which the shard stands
pub record IsPinnedShard (old new : DeskState) (position shard : ℕ)
    (version : Contents) : Type 0 where
  pub version_is : IsVersionOf new shard position version
  pub pin : slice_index_or new.pins shard None ≡ Some (position, layout_text version.layout.parts)
  pub layout : old.alone ≡ true → version.layout ≡ (place_at old shard).1

-- every shard was pinned, at a position between what was seen before and what is seen after
pub record PinsAll (old new : DeskState) (position : ℕ) (versions : List Contents) : Type 0 where
  pub comes : ComesOn old new
  pub last : new.last ≡ position
  pub after : length old.seen ≤ position
  pub within : position ≤ length new.seen
  pub number : length versions ≡ old.config.shards
  pub each : (shard : ℕ) (other : Contents) → shard < old.config.shards
      → IsPinnedShard old new position shard (slice_index_or versions shard other)

-- the first so many shards were pinned at a front that was opened at the length of what was seen
pub record PinsFirst (old new : DeskState) (position : ℕ) (versions : List Contents)
    (number : ℕ) : Type 0 where
  pub comes : ComesOn old new
  pub last : new.last ≡ old.last
  pub whole : position ≡ length old.seen
  pub all : length new.pins ≡ old.config.shards
  pub number_is : length versions ≡ number
  pub each : (shard : ℕ) (other : Contents) → shard < number
      → IsPinnedShard old new position shard (slice_index_or versions shard other)
  pub later : (shard : ℕ) → number ≤ shard
      → slice_index_or new.pins shard None ≡ slice_index_or old.pins shard None
