-- How far a call is that answers lines, and what a piece of its input makes of it.
-- No public clause cites this module.
use Rattle.std.specs.Prelude.{◌≡◌, ℕ, ◌≤◌, true, Option, Some, Result, Ok, Err, List, [], ◌∷◌, ◌++◌, length}
use Rattle.std.specs.Io.KnownBytes.{Appends, Consumes}
use Rattle.byte_lines.specs.Cut.{held_of, TellsOf}
use Rattle.byte_lines.specs.Lines.{ended_lines, lines, unended}
use Rattle.byte_lines.specs.declared.cutter.Cut.{Cut}
use Rattle.line_io.specs.declared.source.Failed.{Failed}
use Rattle.open_queries.specs.Writing.{Writes}
use Rattle.session_model.specs.Ledger.{Ledgers}
use Rattle.session_model.specs.Outside.{Ends}
use Rattle.line_answers.specs.Answered.{Answering, AnswersInOrder, AnswersNext, BreaksOff}

-- how far a call is: the ledgers, the line that has begun, and what the sink tells that it holds
pub record Progress : Type 0 where
  pub ledgers : Ledgers
  pub begun : Option (List ℕ)
  pub written : Option (List ℕ)

-- the progress of these
abbrev pub progress_of : Ledgers → Option (List ℕ) → Option (List ℕ) → Progress
progress_of ledgers begun written = record { ledgers = ledgers; begun = begun; written = written }

-- all whole lines of these bytes were answered by that output, and the rest is kept
pub record HasAnswered (Answered : Answering) (now : Progress) (start : Ledgers)
    (bytes output : List ℕ) : Type 0 where
  pub answers : AnswersInOrder (Answered start now.ledgers) (ended_lines [] bytes) output
  pub begun : now.begun ≡ held_of (unended [] bytes)

-- the sink refused the answer to one of these lines, and so many before it were answered
pub record WasBroken (Answered : Answering) (now : Progress) (start : Ledgers) (all : List (List ℕ))
    (output : List ℕ) (known : ℕ) : Type 0 where
  pub broken : BreaksOff (Answered start now.ledgers) all output
  pub all_before : known ≤ length broken.before

-- where a call stands after a piece behind these bytes
abbrev pub StandsAfter : Result (Unit {0}) Failed → Answering → Progress → Ledgers → List ℕ → List ℕ
    → List ℕ → Type 0
StandsAfter (Ok on) Answered now start bytes piece output =
    HasAnswered Answered now start (bytes ++ piece) output
StandsAfter (Err failed) Answered now start bytes piece output =
    WasBroken Answered now start (ended_lines [] (bytes ++ piece)) output
    (length (ended_lines [] bytes))

-- a piece leads a call on so, whatever it had answered before
abbrev pub ProceedsBy : Result (Unit {0}) Failed → Answering → Progress → Answering → Progress → List ℕ
    → Type 0
ProceedsBy result Old old New new piece =
    (start : Ledgers) (bytes output : List ℕ) → HasAnswered Old old start bytes output →
    (more : List ℕ) × Appends old.written new.written more
    × StandsAfter result New new start bytes piece (output ++ more)

-- where a call stands after the end of the input
abbrev pub StandsAtEnd : Result (Unit {0}) Failed → Answering → Progress → Ledgers → List ℕ → List ℕ
    → Type 0
StandsAtEnd (Ok on) Answered now start bytes output =
    AnswersInOrder (Answered start now.ledgers) (lines bytes true) output
StandsAtEnd (Err failed) Answered now start bytes output =
    WasBroken Answered now start (lines bytes true) output (length (ended_lines [] bytes))

-- the end of the input ends a call so, whatever it had answered before
abbrev pub EndsAfter : Result (Unit {0}) Failed → Answering → Progress → Answering → Progress → Type 0
EndsAfter result Old old New new =
    (start : Ledgers) (bytes output : List ℕ) → HasAnswered Old old start bytes output →
    (more : List ℕ) × Appends old.written new.written more
    × StandsAtEnd result New new start bytes (output ++ more)

-- the line of a cut is answered by a text, of which the sink took all, or less where it failed
pub record AnswersLine (result : Result (Unit {0}) Failed) (Old : Answering) (old : Progress)
    (New : Answering) (new : Progress) (line : List ℕ) : Type 0 where
  pub text : List ℕ
  pub next : AnswersNext Old New old.ledgers new.ledgers line text
  pub written : Writes old.written new.written result text

-- so is each line that a cut may tell of
abbrev pub AnswersLineCut : Cut → List ℕ → Result (Unit {0}) Failed → Answering → Progress → Answering
    → Progress → Type 0
AnswersLineCut cut lent result Old old New new =
    (line : List ℕ) → TellsOf (Some cut) lent (line ∷ [])
    → AnswersLine result Old old New new line

-- so many bytes were read and all whole lines of them answered, and no fault rose
pub record IsServing (Answered : Answering) (limit taken : ℕ) (start : Ledgers) (now : Progress)
    (source source' sink sink' : Ends) : Type 0 where
  pub bytes : List ℕ
  pub output : List ℕ
  pub read : Consumes source.bytes source'.bytes bytes
  pub wrote : Appends sink.bytes sink'.bytes output
  pub long : length bytes ≡ taken
  pub few : taken ≤ limit
  pub no_read_failed : source'.faults ≡ source.faults
  pub no_write_failed : sink'.faults ≡ sink.faults
  pub goes : HasAnswered Answered now start bytes output
