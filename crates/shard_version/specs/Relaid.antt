-- A version in another layout, and the tables that it needs.
use Rattle.std.specs.Prelude.{◌≡◌, ℕ, ◌^◌, ◌<◌, List, length, slice_index_or}
use Rattle.part_layout.specs.Laid.{Laid}
use Rattle.shard_version.specs.Contents.{Contents}
use Rattle.shard_version.specs.Tables.{ArePostings, counts_of}
use Rattle.shard_version.specs.declared.part_table.PartTable.{PartTable}

-- the same shard, position and rows in another layout
abbrev pub in_layout : Contents → Laid → Contents
in_layout version layout = record version { layout = layout }

-- the tables of a part have the rows
pub record IsPartTable {W : ℕ} (version : Contents) (part : ℕ) (table : PartTable W) : Type 0 where
  pub postings : ArePostings W version part table.postings
  pub size : length table.postings.lists ≡ 2 ^ table.postings.width
  pub counts : table.counts ≡ counts_of version part

-- there are tables of the rows for each part
pub record ArePartTables {W : ℕ} (version : Contents) (tables : List (PartTable W)) : Type 0 where
  pub number : length tables ≡ length version.layout.parts
  pub each : (part : ℕ) (other : PartTable W) → part < length tables
      → IsPartTable version part (slice_index_or tables part other)
