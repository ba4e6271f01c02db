-- Rows and histories of codes of so many bits, and the rows as words of 64 bits keep their codes.
use Rattle.std.specs.Prelude.{ℕ, List, map}
use Rattle.std.specs.List.{AllByRecursion}
use Rattle.hamming_model.specs.Codes.{IsCode, padded}
use Rattle.hamming_model.specs.History.{Operation, JournalEntry, Add, Delete}

-- the rows with zeros after each code, so many positions in all
abbrev pub stored_rows : ℕ → List (ℕ × List ℕ) → List (ℕ × List ℕ)
stored_rows positions rows = map {B = ℕ × List ℕ} (λ row. (row.0, padded positions row.1)) rows

-- each code of the rows has so many bits
abbrev pub AreCodeRows : ℕ → List (ℕ × List ℕ) → Type 0
AreCodeRows bits rows = AllByRecursion (λ row. IsCode bits row.1) rows

-- an operation that adds a code of so many bits, or deletes a row
abbrev pub AddsCode : ℕ → Operation → Type 0
AddsCode bits (Add key code) = IsCode bits code
AddsCode bits (Delete key) = Unit {0}

-- each code that the entries of a history add has so many bits
abbrev pub AreCodes : ℕ → List JournalEntry → Type 0
AreCodes bits history = AllByRecursion (λ entry. AddsCode bits entry.operation) history
