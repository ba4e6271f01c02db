-- What the command `load` has written and counted, by how it ends.
use Rattle.std.specs.Prelude.{◌≡◌, ℕ, ◌<◌, true, List, length, take, Result, Ok}
use Rattle.std.specs.Io.KnownBytes.{Appends}
use Rattle.part_layout.specs.declared.config.Config.{Config}
use Rattle.command_line.specs.declared.command.Command.{Command}
use Rattle.command_line.specs.declared.command.Command.TheVariants.{Load}
use Rattle.line_io.specs.Faults.{Rose}
use Rattle.byte_lines.specs.Lines.{lines}
use Rattle.session_model.specs.Entries.{Exchange}
use Rattle.session_model.specs.Ledger.{Ledgers, Rise, RisesBy}
use Rattle.session_model.specs.Run.{IsRunAlone, lines_of}
use Rattle.session_model.specs.Outside.{Call, Ends}
use Rattle.load_lines.specs.Lines.{load_lines}
use Rattle.load_sums.specs.Line.{load_line}
use Rattle.load_sums.specs.Sums.{IsSumOf}
use Rattle.load_sums.specs.declared.sums.Sums.{Sums}
use Rattle.load_model.specs.Told.{IsToldOfLoad, replies_of}
use Rattle.gph_serve.specs.declared.outcome.Outcome.{Outcome}
use Rattle.gph_serve.specs.declared.outcome.Outcome.TheVariants as outcome

-- sums of the replies of a session that is alone to the lines of a load: those that its words tell,
-- and the ledgers rise by what that session read
pub record IsSumOfLoad (config : Config) (number codes : ℕ) (before after : Ledgers) (sums : Sums)
    : Type 0 where
  pub told : IsToldOfLoad config number codes sums.hits sums.bound sums.reads
  pub exchanges : List Exchange
  pub rise : Rise
  pub served : IsRunAlone config exchanges rise
  pub lines_are : lines_of exchanges ≡ lines (load_lines config.bits number codes) true
  pub summed : IsSumOf (replies_of exchanges) sums
  pub rises : RisesBy before after rise

-- the line was written, and no write failed
pub record Loads (config : Config) (number codes : ℕ) (sink sink' : Ends) (before after : Ledgers)
    : Type 0 where
  pub sums : Sums
  pub are_sums : IsSumOfLoad config number codes before after sums
  pub wrote : Appends sink.bytes sink'.bytes (load_line codes sums)
  pub no_write_failed : sink'.faults ≡ sink.faults

-- a write failed, and a part of the line was written
pub record LoadsPartly (config : Config) (number codes : ℕ) (sink sink' : Ends)
    (before after : Ledgers) : Type 0 where
  pub sums : Sums
  pub are_sums : IsSumOfLoad config number codes before after sums
  pub taken : ℕ
  pub not_all : taken < length (load_line codes sums)
  pub wrote : Appends sink.bytes sink'.bytes (take taken (load_line codes sums))
  pub rose : Rose sink.faults sink'.faults

-- what was written and counted, by the outcome: nothing is written where memory lacked
abbrev pub LoadedAs : Outcome → Config → ℕ → ℕ → Ends → Ends → Ledgers → Ledgers → Type 0
LoadedAs outcome.Done config number codes sink sink' = Loads config number codes sink sink'
LoadedAs outcome.WriteFault config number codes sink sink' =
    LoadsPartly config number codes sink sink'
LoadedAs outcome.NoMemory config number codes sink sink' = λ before after. sink' ≡ sink
LoadedAs outcome config number codes sink sink' = λ before after. ⊥

-- an ending of the command `load`, which reads nothing, where the words ask for it
abbrev pub ForLoad : (Config → ℕ → ℕ → Ends → Ends → Ledgers → Ledgers → Type 0)
    → Result Command ℕ → Call → Type 0
ForLoad P asked it =
    (config : Config) (number codes : ℕ) → asked ≡ Ok (Load config number codes)
    → (it.after.source ≡ it.before.source)
    × P config number codes it.before.sink it.after.sink it.before.ledgers it.after.ledgers
