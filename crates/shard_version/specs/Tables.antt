-- What the tables of a part are to the rows of a version, and what a contract sees of both.
use Rattle.std.specs.Prelude.{◌≡◌, ℕ, ◌*◌, ◌<◌, ◌≤◌, List, [], map, take, length, slice_index_or, refl}
use Rattle.std.specs.Coded.{Coded, code_by, coded×, coded_list}
use Rattle.std.specs.List.{AllByRecursion}
use Rattle.hamming_model.specs.Codes.{StandsFor}
use Rattle.hamming_model.specs.Layouts.{part_value}
use Rattle.part_layout.specs.Laid.{part_at}
use Rattle.posting_table.specs.Tables.{Table, posting_list, table_code}
use Rattle.count_table.specs.Copies.{CopyTable, table_of}
use Rattle.search_model.specs.Reading.{AreLists, unpadded}
use Rattle.shard_version.specs.Contents.{Contents, contents_code}

-- the values of rows at a part, in the order of the rows
abbrev pub part_values : List (ℕ × List ℕ) → List ℕ → List ℕ
part_values rows part = map (λ row. part_value row.1 part) rows

-- the code of each entry stands for its first so many bits
abbrev pub AreStored : ℕ → ℕ → List (ℕ × List ℕ) → Type 0
AreStored words bits entries =
    AllByRecursion (λ entry. StandsFor words bits entry.1 (take bits entry.1)) entries

-- the rows of least key, so many or all, as their words keep them
abbrev pub AreFirst : ℕ → Contents → List (ℕ × List ℕ) → Type 0
AreFirst n version entries = map (unpadded version.layout.bits) entries ≡ take n version.rows

-- the posting lists of a part have each row of a version once, in the list of its value,
-- with the words of its code
pub record ArePostings (words : ℕ) (version : Contents) (part : ℕ) (table : Table) : Type 0 where
  pub width : table.width ≡ length (part_at version.layout part)
  pub lists : AreLists version.rows (part_at version.layout part)
      (λ value. map (unpadded version.layout.bits) (posting_list table value))
  pub codes : (value : ℕ) → AreStored words version.layout.bits (posting_list table value)

-- the counts of a part: each value has as many copies as the version has rows with it
abbrev pub counts_of : Contents → ℕ → CopyTable
counts_of version part = table_of (length (part_at version.layout part))
    (part_values version.rows (part_at version.layout part))

-- a version: its contents, and the posting table of each part,
-- whose lists have an order of their own
pub record Tabled : Type 0 where
  pub contents : Contents
  pub tables : List Table

-- a version as a pair
abbrev pub tabled_code : Coded Tabled
tabled_code =
    code_by (Contents × List Table) (coded× contents_code (coded_list table_code))
    (λ version. (version.contents, version.tables))
    (λ pair. record { contents = pair.0; tables = pair.1 }) (λ _. refl)

-- the posting table of a part
abbrev pub table_at : Tabled → ℕ → Table
table_at version part = slice_index_or version.tables part (record { width = 0; lists = [] })

-- codes of the version's layout fit so many words,
-- and the posting tables of all parts have the rows
pub record HasTables (words : ℕ) (version : Tabled) : Type 0 where
  pub room : version.contents.layout.bits ≤ 64 * words
  pub each : (part : ℕ) → part < length version.contents.layout.parts
      → ArePostings words version.contents part (table_at version part)
