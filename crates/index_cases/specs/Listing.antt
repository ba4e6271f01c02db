-- Lists that stand beside what is tested: the items of a table of copies, and the distances of codes
-- at parts.
use Rattle.std.specs.Prelude.{◌≡◌, ℕ, ◌≤◌, ◌<◌, nat_lt, List, [], count_by, slice_index_or}
use Rattle.count_table.specs.Copies.{CopyTable, table_of}

-- the table is that of the items, whose width is a width of values
pub record IsTableOf (width : ℕ) (table : CopyTable) (items : List ℕ) : Type 0 where
  pub some_width : 0 < width
  pub small_width : width ≤ 12
  pub wide : table.width ≡ width
  pub listed : table ≡ table_of width items

-- how many of the distances are among the first so many
abbrev pub nearer : List ℕ → ℕ → ℕ
nearer distances units = count_by (λ distance. nat_lt distance units) distances

-- how many codes are at one of the first so many distances of a part
abbrev pub nearer_at : List (List ℕ) → ℕ → ℕ → ℕ
nearer_at distances part units = nearer (slice_index_or distances part []) units
