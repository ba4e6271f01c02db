-- What the top call has read, written and counted, for what its words ask.
use Rattle.std.specs.Prelude.{◌≡◌, ℕ, ◌⊎◌, Some, Result, Ok, List}
use Rattle.part_layout.specs.declared.config.Config.{Config}
use Rattle.command_line.specs.declared.command.Command.{Command}
use Rattle.command_line.specs.declared.command.Command.TheVariants.{Run, Load}
use Rattle.line_io.specs.Faults.{Rose}
use Rattle.gph_serve.specs.declared.outcome.Outcome.{Outcome}
use Rattle.gph_serve.specs.declared.outcome.Outcome.TheVariants.{Done, Usage, NoMemory}
use Rattle.session_model.specs.Ledger.{Rise}
use Rattle.session_model.specs.Run.{IsRunAlone}
use Rattle.session_model.specs.Outside.{Call, Untouched}
use Rattle.session_model.specs.Outcomes.{EndsWith, IsWithin}
use Rattle.session_model.specs.Outcomes.{IsDone, IsReadFault, IsWriteFault, IsInputLimit}
use Rattle.gph_serve.specs.declared.outcome.Outcome.TheVariants as outcome
use Rattle.gph_serve.specs.Loads.{LoadedAs}

-- the outcomes that may come where the input is within its limit and no fault rose
abbrev pub IsDoneOrNoMemory : Outcome → Type 0
IsDoneOrNoMemory outcome = (outcome ≡ Done) ⊎ (outcome ≡ NoMemory)

-- an ending of the command `run`, where the words ask for it
abbrev pub ForRun : (Config → Call → Rise → Type 0) → Result Command ℕ → Call → Type 0
ForRun P asked it = (config : Config) → asked ≡ Ok (Run config) → EndsWith (P config) it

-- within the limit and with no fault a session ends well, if memory doesn't lack
abbrev pub IsComplete : Outcome → Result Command ℕ → Call → Type 0
IsComplete outcome asked it =
    (config : Config) (input : List ℕ) → asked ≡ Ok (Run config)
    → it.before.source.bytes ≡ Some input → IsWithin config input
    → ¬ Rose it.before.source.faults it.after.source.faults
    → ¬ Rose it.before.sink.faults it.after.sink.faults → IsDoneOrNoMemory outcome

-- the outcomes that come before the first read
abbrev pub IsUnread : Outcome → Type 0
IsUnread (Usage word) = Unit {0}
IsUnread NoMemory = Unit {0}
IsUnread outcome = ⊥

-- the words ask for a load
abbrev pub IsForLoad : Result Command ℕ → Type 0
IsForLoad (Ok (Load config number codes)) = Unit {0}
IsForLoad asked = ⊥

-- what a session has read, written and counted, by its outcome; no public clause cites this
abbrev pub ServedAs : Outcome → Config → Call → Type 0
ServedAs outcome.Done config = EndsWith (IsDone IsRunAlone config)
ServedAs outcome.ReadFault config = EndsWith (IsReadFault IsRunAlone config)
ServedAs outcome.WriteFault config = EndsWith (IsWriteFault IsRunAlone config)
ServedAs outcome.InputLimit config = EndsWith (IsInputLimit IsRunAlone config)
ServedAs (outcome.Usage word) config = λ it. ⊥
ServedAs outcome.NoMemory config = Untouched

-- what a call has read, written and counted that does a command; no public clause cites this
abbrev pub ServedBy : Outcome → Command → Call → Type 0
ServedBy outcome (Run config) it = ServedAs outcome config it
ServedBy outcome (Load config number codes) it =
    (it.after.source ≡ it.before.source)
    × LoadedAs outcome config number codes it.before.sink it.after.sink it.before.ledgers
    it.after.ledgers
