-- What operations and entries of the program mean: those of the definitions,
-- with codes of so many bits.
use Rattle.std.specs.Prelude.{◌≡◌, ℕ, Bool, List, is_some}
use Rattle.hamming_model.specs.Codes.{StandsFor}
use Rattle.hamming_model.specs.History as history
use Rattle.entry_log.specs.Decisions.{decision_of}
use Rattle.entry_log.specs.Entries.{kept_operation}
use Rattle.entry_log.specs.declared.decision.Decision.{Decision}
use Rattle.entry_log.specs.declared.entry.Entry.{Entry}
use Rattle.entry_log.specs.declared.op.Op.{Op}
use Rattle.entry_log.specs.declared.op.Op.TheVariants.{Add, Delete}

-- the operation in the definitions' words,
-- its code the one of so many bits that its words stand for
abbrev pub MeansOperation : {W : ℕ} → ℕ → Op W → history.Operation → Type 0
MeansOperation {W} bits (Add key code) (history.Add row text) =
    (key ≡ row) × StandsFor W bits code text
MeansOperation bits (Delete key) (history.Delete row) = key ≡ row
MeansOperation bits (Add key code) (history.Delete row) = ⊥
MeansOperation bits (Delete key) (history.Add row text) = ⊥

-- an entry of the program means one of the definitions
pub record MeansEntry {W : ℕ} (bits : ℕ) (entry : Entry W)
    (meant : history.JournalEntry) : Type 0 where
  pub who : entry.who ≡ meant.who
  pub operation : MeansOperation bits entry.op meant.operation

-- the key of an operation
abbrev pub operation_key : history.Operation → ℕ
operation_key (history.Add key code) = key
operation_key (history.Delete key) = key

-- the decision is that of the definitions,
-- on any rows that have the operation's key where it is present
abbrev pub DecidesAs : {W : ℕ} → Op W → Bool → ℕ → ℕ → Decision → Type 0
DecidesAs op present entries limit decision =
    (bits : ℕ) (rows : List (ℕ × List ℕ)) (operation : history.Operation)
    → MeansOperation bits op operation
    → present ≡ is_some (history.code_at rows (operation_key operation))
    → decision_of decision ≡ history.decide rows entries limit operation

-- and so it is of the operation with all bits that its words keep
abbrev pub DecidesStored : {W : ℕ} → Op W → Bool → ℕ → ℕ → Decision → Type 0
DecidesStored op present entries limit decision =
    (rows : List (ℕ × List ℕ))
    → present ≡ is_some (history.code_at rows (operation_key (kept_operation op)))
    → decision_of decision ≡ history.decide rows entries limit (kept_operation op)
