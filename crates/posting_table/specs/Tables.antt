-- Posting tables: the entries (key, code) of each value of one part.
use Rattle.std.specs.Prelude.{◌≡◌, ℕ, ◌^◌, ◌<◌, ◌==◌, Bool, false, List, [], ◌∷◌, ◌++◌, Option, MatchOption, length, replicate, slice_index_or, slice_set, refl}
use Rattle.std.specs.Coded.{Coded, code_by, coded×, coded_list, coded_ℕ}
use Rattle.std.specs.List.{list_any}
use Rattle.std.specs.List.Sorted.{IsPermutation}

-- the width of a part, and the list of entries of each of its values
pub record Table : Type 0 where
  pub width : ℕ
  pub lists : List (List (ℕ × List ℕ))

-- a table as a number and a list
abbrev pub table_code : Coded Table
table_code =
    code_by (ℕ × List (List (ℕ × List ℕ)))
    (coded× coded_ℕ (coded_list (coded_list (coded× coded_ℕ (coded_list coded_ℕ)))))
    (λ table. (table.width, table.lists)) (λ parts. record { width = parts.0; lists = parts.1 })
    (λ _. refl)

-- the table with no entries
abbrev pub no_postings : ℕ → Table
no_postings width = record { width = width; lists = replicate (2 ^ width) [] }

-- the entries of a value
abbrev pub posting_list : Table → ℕ → List (ℕ × List ℕ)
posting_list table value = slice_index_or table.lists value []

-- the table with these entries of a value in place of its own
abbrev pub with_list : Table → ℕ → List (ℕ × List ℕ) → Table
with_list table value entries =
    record { width = table.width; lists = slice_set table.lists value entries }

-- the table with one entry more, at the end of the list of a value
abbrev pub with_posting : Table → ℕ → ℕ × List ℕ → Table
with_posting table value entry = with_list table value (posting_list table value ++ entry ∷ [])

-- whether a key has an entry
abbrev pub has_key : List (ℕ × List ℕ) → ℕ → Bool
has_key entries key = list_any (λ entry. entry.0 == key) entries

-- the entry at this place is the key's
abbrev pub key_at : List (ℕ × List ℕ) → ℕ → ℕ → Type 0
key_at entries place key =
    (place < length entries) × ((other : ℕ × List ℕ) → (slice_index_or entries place other).0 ≡ key)

-- one entry of the key is gone, and each other entry is there as often as before, in some order
pub record Loses (key : ℕ) (old new : List (ℕ × List ℕ)) : Type 0 where
  pub code : List ℕ
  pub others_stay : IsPermutation old ((key, code) ∷ new)

-- the list of a value in the first table loses an entry of the key, and is then that of the second
abbrev pub LosesEntry : Table → Table → ℕ → ℕ → Type 0
LosesEntry old new value key = Loses key (posting_list old value) (posting_list new value)

-- a place is that of an entry of the key, or there is none
abbrev pub FindsKey : List (ℕ × List ℕ) → ℕ → Option ℕ → Type 0
FindsKey entries key found =
    MatchOption found (has_key entries key ≡ false) (λ place. key_at entries place key)
