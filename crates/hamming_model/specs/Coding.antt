-- Operations, entries and histories as numbers and lists: what a model that holds a history needs.
use Rattle.std.specs.Prelude.{◌≡◌, ℕ, ◌⊎◌, List, refl}
use Rattle.std.specs.Coded.{Coded, code_by, coded×, coded⊎, coded_list, coded_ℕ}
use mathlib.Core.Logic.{inl, inr}
use Rattle.hamming_model.specs.History.{Operation, JournalEntry, Add, Delete}

-- the row of an addition, or the key of a deletion
abbrev pub split_operation : Operation → (ℕ × List ℕ) ⊎ ℕ
split_operation (Add key code) = inl (key, code)
split_operation (Delete key) = inr key

-- the operation with that row or key
abbrev pub joined_operation : (ℕ × List ℕ) ⊎ ℕ → Operation
joined_operation (inl row) = Add row.0 row.1
joined_operation (inr key) = Delete key

-- splitting loses nothing
pub joined-split : (operation : Operation)
    → joined_operation (split_operation operation) ≡ operation
joined-split (Add key code) = refl
joined-split (Delete key) = refl

-- an operation as a row or a key
abbrev pub operation_code : Coded Operation
operation_code =
    code_by ((ℕ × List ℕ) ⊎ ℕ) (coded⊎ (coded× coded_ℕ (coded_list coded_ℕ)) coded_ℕ)
    split_operation joined_operation joined-split

-- an entry as a pair
abbrev pub entry_code : Coded JournalEntry
entry_code =
    code_by (ℕ × Operation) (coded× coded_ℕ operation_code) (λ entry. (entry.who, entry.operation))
    (λ pair. record { who = pair.0; operation = pair.1 }) (λ _. refl)

-- a history as a list
abbrev pub history_code : Coded (List JournalEntry)
history_code = coded_list entry_code
