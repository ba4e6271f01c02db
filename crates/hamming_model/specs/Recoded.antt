-- Rows and histories with each code changed in one way,
-- as by cutting what words keep to so many bits.
use Rattle.std.specs.Prelude.{ℕ, List, map, take}
use Rattle.std.specs.List.{AllByRecursion}
use Rattle.hamming_model.specs.Codes.{StandsFor}
use Rattle.hamming_model.specs.History.{Operation, JournalEntry, Add, Delete}

-- the rows with each code changed
abbrev pub recoded_rows : (List ℕ → List ℕ) → List (ℕ × List ℕ) → List (ℕ × List ℕ)
recoded_rows change rows = map {B = ℕ × List ℕ} (λ row. (row.0, change row.1)) rows

-- an operation with its code changed
abbrev pub recoded_operation : (List ℕ → List ℕ) → Operation → Operation
recoded_operation change (Add key code) = Add key (change code)
recoded_operation change (Delete key) = Delete key

-- an entry with its code changed
abbrev pub recoded_entry : (List ℕ → List ℕ) → JournalEntry → JournalEntry
recoded_entry change entry =
    record { who = entry.who; operation = recoded_operation change entry.operation }

-- a history with each code changed
abbrev pub recoded_history : (List ℕ → List ℕ) → List JournalEntry → List JournalEntry
recoded_history change history = map (recoded_entry change) history

-- an operation whose code is the first so many bits of what words keep
abbrev pub cut_operation : ℕ → Operation → Operation
cut_operation bits operation = recoded_operation (take bits) operation

-- an entry in codes of so many bits
abbrev pub cut_entry : ℕ → JournalEntry → JournalEntry
cut_entry bits entry = recoded_entry (take bits) entry

-- a history in codes of so many bits
abbrev pub cut_history : ℕ → List JournalEntry → List JournalEntry
cut_history bits history = recoded_history (take bits) history

-- what so many words keep of a code that is added stands for its first so many bits
abbrev pub IsStoredOperation : ℕ → ℕ → Operation → Type 0
IsStoredOperation words bits (Add key stored) = StandsFor words bits stored (take bits stored)
IsStoredOperation words bits (Delete key) = Unit {0}

-- each code that the entries add is kept so
abbrev pub AreStoredEntries : ℕ → ℕ → List JournalEntry → Type 0
AreStoredEntries words bits history =
    AllByRecursion (λ entry. IsStoredOperation words bits entry.operation) history
