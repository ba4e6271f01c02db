-- What a part of a version that is being made has. No public clause cites this module.
use Rattle.std.specs.Prelude.{◌≡◌, ℕ, ◌^◌, ◌==◌, List, map, filter, take, length}
use Rattle.hamming_model.specs.Layouts.{part_value}
use Rattle.search_model.specs.Reading.{unpadded}
use Rattle.posting_table.specs.Tables.{posting_list}
use Rattle.count_table.specs.Copies.{table_of}
use Rattle.shard_version.specs.Tables.{part_values}
use Rattle.shard_version.specs.declared.part_table.PartTable.{PartTable}
use Rattle.version_draft.specs.declared.part_draft.PartDraft.{PartDraft}

-- the rows with a value at a part, as their words keep them
abbrev pub stored_with : ℕ → List ℕ → ℕ → List (ℕ × List ℕ) → List (ℕ × List ℕ)
stored_with bits part value rows =
    filter (λ row. part_value (take bits row.1) part == value) rows

-- the counts are of all rows, each list has room for those of its value,
-- and holds the ones among the first so many
pub record IsPartDraft {W : ℕ} (bits : ℕ) (part : List ℕ) (rows : List (ℕ × List ℕ)) (next : ℕ)
    (draft : PartDraft W) : Type 0 where
  pub counts : draft.counts
      ≡ table_of (length part) (part_values (map (unpadded bits) rows) part)
  pub width : draft.lists.table.width ≡ length part
  pub size : length draft.lists.table.lists ≡ 2 ^ length part
  pub room : draft.lists.room ≡ draft.counts.copies
  pub placed : (value : ℕ) → posting_list draft.lists.table value
      ≡ stored_with bits part value (take next rows)

-- the tables of a part, as far as rows are placed
abbrev pub tables_of : {W : ℕ} → PartDraft W → PartTable W
tables_of draft = record { postings = draft.lists.table; counts = draft.counts }
