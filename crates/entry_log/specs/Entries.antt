-- The operations and entries of the program in the definitions' words:
-- their codes as words keep them, or cut to so many bits.
use Rattle.std.specs.Prelude.{ℕ, List, map}
use Rattle.hamming_model.specs.History.{Operation, JournalEntry}
use Rattle.hamming_model.specs.History as history
use Rattle.hamming_model.specs.Recoded.{cut_entry, cut_operation}
use Rattle.entry_log.specs.declared.entry.Entry.{Entry}
use Rattle.entry_log.specs.declared.op.Op.{Op}
use Rattle.entry_log.specs.declared.op.Op.TheVariants.{Add, Delete}

-- an operation, with all bits that the words of its code keep
abbrev pub kept_operation : {W : ℕ} → Op W → Operation
kept_operation (Add key stored) = history.Add key stored
kept_operation (Delete key) = history.Delete key

-- an entry, with all bits that the words of its code keep
abbrev pub kept_entry : {W : ℕ} → Entry W → JournalEntry
kept_entry entry = record { who = entry.who; operation = kept_operation entry.op }

-- an operation whose code is the first so many bits that its words keep
abbrev pub operation_of : {W : ℕ} → ℕ → Op W → Operation
operation_of bits op = cut_operation bits (kept_operation op)

-- an entry in codes of so many bits
abbrev pub entry_of : {W : ℕ} → ℕ → Entry W → JournalEntry
entry_of bits entry = cut_entry bits (kept_entry entry)

-- the history of some entries, in codes of so many bits
abbrev pub history_of : {W : ℕ} → ℕ → List (Entry W) → List JournalEntry
history_of bits entries = map (entry_of bits) entries
