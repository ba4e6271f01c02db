-- The rule that a shard keeps along a history, wherever the live fronts stand.
use Rattle.std.specs.Prelude.{◌≡◌, ◌⊎◌, ℕ, ◌<◌, ◌≤◌, true, List, length, Option}
use Rattle.std.specs.List.{AllByRecursion}
use Rattle.hamming_model.specs.History.{JournalEntry}
use Rattle.part_layout.specs.Laid.{IsLaid}
use Rattle.shard_version.specs.Contents.{Contents}
use Rattle.commit_journal.specs.Fronts.{StandsAt, positions_of}
use Rattle.commit_journal.specs.Journals.{JournalState}
use Rattle.versioned_shard.specs.Along.{Follows}
use Rattle.versioned_shard.specs.Shards.{ShardState, has_version}

-- a kept version stands below the current one, with its shard's rows of its own position,
-- in a layout of the same bits
pub record IsKeptVersion (history : List JournalEntry) (current version : Contents) : Type 0 where
  pub follows : Follows history version
  pub below : version.at < current.at
  pub laid : IsLaid version.layout
  pub shard_is : version.shard ≡ current.shard
  pub shards_is : version.shards ≡ current.shards
  pub bits_are : version.layout.bits ≡ current.layout.bits

-- the current version isn't beyond the history and has the rows of its position; each kept one
-- has those of its own; and for each live front the shard isn't beyond its position or keeps a
-- version there
pub record KeepsRule (live : ℕ → Option ℕ) (history : List JournalEntry)
    (shard : ShardState) : Type 0 where
  pub within : shard.current.at ≤ length history
  pub current : Follows history shard.current
  pub laid : IsLaid shard.current.layout
  pub kept : AllByRecursion (IsKeptVersion history shard.current) shard.kept
  pub fronts : (position : ℕ) → StandsAt live position
      → (shard.current.at ≤ position) ⊎ (has_version shard.kept position ≡ true)

-- the rule along a journal, for its live fronts
abbrev pub KeepsJournalRule : JournalState → ShardState → Type 0
KeepsJournalRule journal shard = KeepsRule (positions_of journal.live) journal.history shard
