-- What one line makes of a session: the step that answers it, with the requests counted.
use Rattle.std.specs.Prelude.{◌≡◌, ℕ, ◌+◌, min, Bool, true, false, Option, Some, Result, Ok, Err}
use Rattle.std.specs.Prelude.{List, [], ◌∷◌, if◌then◌else◌}
use Rattle.std.specs.Io.KnownBytes.{Appends}
use Rattle.byte_lines.specs.Cut.{TellsOf}
use Rattle.byte_lines.specs.declared.cutter.Cut.{Cut}
use Rattle.line_io.specs.declared.source.Failed.{Failed}
use Rattle.hamming_model.specs.History.{JournalEntry}
use Rattle.part_layout.specs.declared.config.Config.{Config}
use Rattle.query_protocol.specs.Requests.{LineReading, bad}
use Rattle.query_protocol.specs.Replies.{LineReply}
use Rattle.query_protocol.specs.Replies as reply
use Rattle.query_protocol.specs.declared.bad.LineFault.{LineFault}
use Rattle.query_protocol.specs.declared.bad.LineFault.TheVariants as line
use Rattle.query_protocol.specs.Lines.{reading}
use Rattle.session_model.specs.State.{State}
use Rattle.session_model.specs.Commits.{is_answered}
use Rattle.session_model.specs.Run.{asks_quit}
use Rattle.session_step.specs.declared.turn.Turn.{Turn}
use Rattle.session_step.specs.declared.turn.Turn.TheVariants.{Goes, Quits}
use Rattle.open_session.specs.Moments.{Moment, Point}
use Rattle.open_session.specs.Steps.{OneStep, Stands}

-- one answered line more, if it is one: the count stays at the greatest number
abbrev pub requests_with : LineReading → ℕ → ℕ
requests_with asked requests =
    if is_answered asked then min (requests + 1) 18446744073709551615 else requests

-- and the requests were counted
pub record OneLine {A : Type 0} (W : ℕ) (config : Config) (history : List JournalEntry) (s : State)
    (line : List ℕ) (before after : Option (List ℕ)) (result : Result A Failed)
    (old new : Moment W) : Type 0 where
  pub step : OneStep W config history s line before after result old new
  pub requests : new.requests ≡ requests_with (reading config line) old.requests

-- an answered line ends the session without a reply, or is one step of it
abbrev pub TurnIs : Result Turn Failed → (W : ℕ) → Config → List JournalEntry → State → List ℕ
    → Option (List ℕ) → Option (List ℕ) → Moment W → Moment W → Type 0
TurnIs (Ok Goes) W config history s line before after old new =
    OneLine {A = Turn} W config history s line before after (Ok Goes) old new
TurnIs (Ok Quits) W config history s line before after old new =
    (asks_quit (reading config line) ≡ true) × Appends before after [] × (new ≡ old)
TurnIs (Err failed) W config history s line before after old new =
    OneLine {A = Turn} W config history s line before after (Err failed) old new

-- a session answers a line so, whatever state it means
abbrev pub AnswersAs : {W : ℕ} → Result Turn Failed → Config → List ℕ → Option (List ℕ)
    → Option (List ℕ) → Moment W → Moment W → Type 0
AnswersAs {W} result config line before after old new =
    (history : List JournalEntry) (s : State) → Stands config old history s →
    TurnIs result W config history s line before after old new

-- how a session goes on after a reply
abbrev pub turn_after : Result (Unit {0}) Failed → Result Turn Failed
turn_after (Ok unit) = Ok Goes
turn_after (Err failed) = Err failed

-- the reply to a fault of a line, where a build goes on or none does
abbrev pub fault_reply : LineFault → Bool → LineReply
fault_reply (line.Bad fault) has_build = reply.Bad fault
fault_reply line.NoMemory true = reply.Bad (bad 10)
fault_reply line.NoMemory false = reply.NoMemory

-- the line of a cut is answered so between two points of a session
abbrev pub AnswersCut : {W : ℕ} → Cut → Result Turn Failed → Config → Point W → Point W → Type 0
AnswersCut cut result config old new =
    (line : List ℕ) → TellsOf (Some cut) old.cutter.line (line ∷ [])
    → AnswersAs result config line old.written new.written old.moment new.moment
