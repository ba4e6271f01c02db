-- What a decision of the program is among those of the definitions, and which operations fit.
use Rattle.std.specs.Prelude.{◌≡◌, ℕ, Bool, true, false}
use Rattle.hamming_model.specs.History as history
use Rattle.entry_log.specs.declared.op.Op.{Op}
use Rattle.entry_log.specs.declared.op.Op.TheVariants.{Add, Delete}
use Rattle.entry_log.specs.declared.decision.Decision.{Decision}
use Rattle.entry_log.specs.declared.decision.Decision.TheVariants.{Added, Taken, Deleted, Absent, Full}

-- whether an operation adds a row
abbrev pub is_add : {W : ℕ} → Op W → Bool
is_add (Add key code) = true
is_add (Delete key) = false

-- an added key has no row, a deleted one has one
abbrev pub FitsRows : {W : ℕ} → Op W → Bool → Type 0
FitsRows (Add key code) present = present ≡ false
FitsRows (Delete key) present = present ≡ true

-- the decision in the definitions' words
abbrev pub decision_of : Decision → history.Decision
decision_of Added = history.Added
decision_of Taken = history.Taken
decision_of Deleted = history.Deleted
decision_of Absent = history.Absent
decision_of Full = history.Full
