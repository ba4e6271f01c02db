-- What a trace has read, written and counted, by how it ends.
use Rattle.std.specs.Prelude.{Result, Ok, Err}
use Rattle.line_answers.specs.Endings.{EndsAnswered}
use Rattle.line_answers.specs.declared.ending.Ending.{Ending}
use Rattle.part_layout.specs.declared.config.Config.{Config}
use Rattle.read_meter.specs.declared.no_memory.NoMemory.{NoMemory}
use Rattle.session_model.specs.Outside.{Call, Untouched}
use Rattle.world_model.specs.WorldState.{WorldState}
use Rattle.world_traces.specs.Traced.{IsTraced}

-- the lines that were read were answered by a world of its own, which stands in some state then,
-- and the call ended so
pub record TracesTo (ending : Ending) (config : Config) (it : Call) : Type 0 where
  pub last : WorldState
  pub ends : EndsAnswered ending (IsTraced config last) config.input it

-- the same; or nothing was read or written, where memory lacked before
abbrev pub TracesAs : Result Ending NoMemory → Config → Call → Type 0
TracesAs (Ok ending) config it = TracesTo ending config it
TracesAs (Err fault) config it = Untouched it
