-- Versions along a history that words keep.
use Rattle.std.specs.Prelude.{◌≡◌, ℕ, List, take}
use Rattle.hamming_model.specs.History.{JournalEntry}
use Rattle.hamming_model.specs.Recoded.{cut_history}
use Rattle.shard_version.specs.Contents.{Contents}
use Rattle.shard_version.specs.Prefixes.{prefix_of}

-- the version of the first so many entries, in the shard and the layout of a version
abbrev pub version_at : List JournalEntry → Contents → ℕ → Contents
version_at history from position = prefix_of from.shard from.shards from.layout
    (take position (cut_history from.layout.bits history))

-- a version has taken in the first entries of a history, and has its shard's rows of them
pub record Follows (history : List JournalEntry) (version : Contents) : Type 0 where
  pub is : version ≡ version_at history version version.at

-- a version stands at a position, in the shard and layout of another
pub record Reaches (history : List JournalEntry) (from : Contents) (position : ℕ)
    (version : Contents) : Type 0 where
  pub is : version ≡ version_at history from position
  pub at : version.at ≡ position
