-- What a session at a desk of a board leaves of the desk, and that it comes to its end.
use Rattle.std.specs.Prelude.{◌≡◌, ℕ, ◌⊎◌, Some, List, ◌++◌}
use Rattle.hamming_model.specs.History.{JournalEntry}
use Rattle.part_layout.specs.declared.config.Config.{Config}
use Rattle.line_io.specs.Faults.{Rose}
use Rattle.session_desk.specs.Desks.{DeskState, seen_history}
use Rattle.session_model.specs.Outside.{Call}
use Rattle.session_model.specs.Outcomes.{IsWithin}
use Rattle.open_session.specs.KeptDesk.{LeavesDesk}
use Rattle.gph_session.specs.declared.report.Status.{Status}
use Rattle.gph_session.specs.declared.report.Status.TheVariants.{Done, NoMemory}

-- the desk has its number, its board, the Config and its live fronts, and what it had seen begins
-- what it has seen
pub record KeepsSeat (old new : DeskState) : Type 0 where
  pub keeps : LeavesDesk old new
  pub more : List JournalEntry
  pub longer : seen_history new ≡ seen_history old ++ more

-- within the limit and with no fault a session ends well, if memory doesn't lack
abbrev pub IsCompleteSession : Status → Config → Call → Type 0
IsCompleteSession status config it =
    (input : List ℕ) → it.before.source.bytes ≡ Some input → IsWithin config input
    → ¬ Rose it.before.source.faults it.after.source.faults
    → ¬ Rose it.before.sink.faults it.after.sink.faults → (status ≡ Done) ⊎ (status ≡ NoMemory)
