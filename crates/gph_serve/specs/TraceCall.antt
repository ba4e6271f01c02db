-- What the command `trace` has read, written and counted, for what its words ask.
use Rattle.std.specs.Prelude.{◌≡◌, ℕ, ◌≤◌, Some, Result, Ok, Err, List, length}
use Rattle.event_world.specs.TraceEnds.{TracesTo}
use Rattle.line_answers.specs.declared.ending.Ending.{Ending}
use Rattle.line_answers.specs.declared.ending.Ending.TheVariants as ending
use Rattle.line_io.specs.Faults.{Rose}
use Rattle.part_layout.specs.declared.config.Config.{Config}
use Rattle.read_meter.specs.declared.no_memory.NoMemory.{NoMemory}
use Rattle.session_model.specs.Outside.{Call}
use Rattle.gph_serve.specs.TopCall.{IsDoneOrNoMemory}
use Rattle.gph_serve.specs.declared.outcome.Outcome.{Outcome}
use Rattle.gph_serve.specs.declared.outcome.Outcome.TheVariants as outcome

-- an ending of a trace, where the words ask for one
abbrev pub ForTrace : Ending → Result Config ℕ → Call → Type 0
ForTrace ending asked it = (config : Config) → asked ≡ Ok config → TracesTo ending config it

-- within the limit and with no fault a trace ends well, if memory doesn't lack
abbrev pub IsCompleteTrace : Outcome → Result Config ℕ → Call → Type 0
IsCompleteTrace outcome asked it =
    (config : Config) (input : List ℕ) → asked ≡ Ok config
    → it.before.source.bytes ≡ Some input → length input ≤ config.input
    → ¬ Rose it.before.source.faults it.after.source.faults
    → ¬ Rose it.before.sink.faults it.after.sink.faults → IsDoneOrNoMemory outcome

-- the outcome of a trace, by how it ended; no public clause cites this
abbrev pub trace_outcome : Result Ending NoMemory → Outcome
trace_outcome (Ok ending.Done) = outcome.Done
trace_outcome (Ok ending.ReadFault) = outcome.ReadFault
trace_outcome (Ok ending.WriteFault) = outcome.WriteFault
trace_outcome (Ok ending.InputLimit) = outcome.InputLimit
trace_outcome (Err fault) = outcome.NoMemory
