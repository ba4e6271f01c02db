-- The versions of one shard along a history.
use Rattle.std.specs.Prelude.{ℕ, List, [], ◌∷◌, length}
use Rattle.hamming_model.specs.History.{JournalEntry, rows_of, shard_rows}
use Rattle.part_layout.specs.Laid.{Laid}
use Rattle.shard_version.specs.Contents.{Contents, after_entry}

-- a version after the entries of a list
abbrev pub after_entries : Contents → List JournalEntry → Contents
after_entries version [] = version
after_entries version (entry ∷ entries) = after_entries (after_entry version entry) entries

-- the version of a whole history: all its entries taken in, and the rows of the shard
abbrev pub prefix_of : ℕ → ℕ → Laid → List JournalEntry → Contents
prefix_of shard shards layout history =
    record {
      shard = shard;
      shards = shards;
      at = length history;
      layout = layout;
      rows = shard_rows shard shards (rows_of history);
    }
