-- Posting lists whose room was taken before.
use Rattle.std.specs.Prelude.{◌≡◌, ℕ, ◌^◌, ◌<◌, false, List, length, slice_index, refl}
use Rattle.std.specs.Coded.{Coded, code_by, coded×, coded_list, coded_ℕ}
use Rattle.posting_table.specs.Tables.{Table, has_key, no_postings, posting_list, table_code, with_posting}

-- posting lists, and how many entries the list of each value has room for
pub record Reserved : Type 0 where
  pub table : Table
  pub room : List ℕ

-- the lists and their room as a pair
abbrev pub reserved_code : Coded Reserved
reserved_code =
    code_by (Table × List ℕ) (coded× table_code (coded_list coded_ℕ))
    (λ lists. (lists.table, lists.room)) (λ pair. record { table = pair.0; room = pair.1 })
    (λ _. refl)

-- empty lists with this room
abbrev pub with_room : ℕ → List ℕ → Reserved
with_room width sizes = record { table = no_postings width; room = sizes }

-- the lists with one entry more, at the end of that of a value, in the same room
abbrev pub entry_placed : Reserved → ℕ → ℕ × List ℕ → Reserved
entry_placed lists value entry = record lists { table = with_posting lists.table value entry }

-- the list of a value has room for one entry more, and none of the key
pub record HasSpace (lists : Reserved) (value key : ℕ) : Type 0 where
  pub in_width : value < 2 ^ lists.table.width
  pub space : length (posting_list lists.table value) < slice_index lists.room value
  pub absent : has_key (posting_list lists.table value) key ≡ false
