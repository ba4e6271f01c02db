-- What a piece of the input, or its end, makes of a session. No public clause cites this module.
use Rattle.std.specs.Prelude.{◌≡◌, ℕ, ◌≤◌, true, Option, Result, Ok, Err}
use Rattle.std.specs.Prelude.{List, [], ◌++◌, length}
use Rattle.std.specs.Io.KnownBytes.{Appends}
use Rattle.byte_lines.specs.Lines.{ended_lines, lines}
use Rattle.line_io.specs.declared.source.Failed.{Failed}
use Rattle.part_layout.specs.declared.config.Config.{Config}
use Rattle.session_model.specs.Ledger.{Rise, RisesBy}
use Rattle.session_model.specs.Run.{AnswersLines, IsRefused, before_quit, has_quit}
use Rattle.session_step.specs.declared.turn.Turn.{Turn}
use Rattle.session_step.specs.declared.turn.Turn.TheVariants.{Goes, Quits}
use Rattle.open_session.specs.Moments.{Moment, Point}
use Rattle.gph_session.specs.Sessions.{IsServed}
use Rattle.gph_session.specs.Flow.{Start, GoesOn, told_so_far}

-- a session that began so answers these lines by that output
pub record HasServed {W : ℕ} (config : Config) (start : Start) (now : Moment W)
    (of_lines : List (List ℕ)) (output : List ℕ) : Type 0 where
  pub rise : Rise
  pub rises : RisesBy start.ledgers now.ledgers rise
  pub answered : AnswersLines (IsServed start.desk now.desk (told_so_far now) config)
      of_lines output rise

-- one of these lines ended the session, and those before it were answered
pub record HasEnded {W : ℕ} (config : Config) (start : Start) (now : Moment W)
    (of_lines : List (List ℕ)) (output : List ℕ) : Type 0 where
  pub quits : has_quit config of_lines ≡ true
  pub served : HasServed config start now (before_quit config of_lines) output

-- the sink refused a reply to one of these lines, of which at least so many were answered
pub record WasRefused {W : ℕ} (config : Config) (start : Start) (now : Moment W)
    (of_lines : List (List ℕ)) (output : List ℕ) (known : ℕ) : Type 0 where
  pub rise : Rise
  pub rises : RisesBy start.ledgers now.ledgers rise
  pub refused : IsRefused (IsServed start.desk now.desk (told_so_far now) config)
      of_lines output rise
  pub all_before : known ≤ length refused.answered

-- how the session goes on after a piece behind these bytes: it stands, or has ended, or a reply to
-- a line that ends in the piece was refused
abbrev pub FlowIs : {W : ℕ} → Result Turn Failed → Config → Start → Moment W → List ℕ → List ℕ
    → List ℕ → Option (List ℕ) → Type 0
FlowIs (Ok Goes) config start now bytes piece output begun =
    GoesOn config start now (bytes ++ piece) output begun
FlowIs (Ok Quits) config start now bytes piece output begun =
    HasEnded config start now (ended_lines [] (bytes ++ piece)) output
FlowIs (Err failed) config start now bytes piece output begun =
    WasRefused config start now (ended_lines [] (bytes ++ piece)) output
    (length (ended_lines [] bytes))

-- a piece leads a session on so, whatever it had answered before
abbrev pub FlowsOn : {W : ℕ} → Result Turn Failed → Config → Moment W → Moment W
    → Option (List ℕ) → Option (List ℕ) → List ℕ → Option (List ℕ) → Option (List ℕ) → Type 0
FlowsOn {W} result config old new begun begun' piece before after =
    (start : Start) (bytes output : List ℕ) → GoesOn config start old bytes output begun →
    (more : List ℕ) × Appends before after more
    × FlowIs result config start new bytes piece (output ++ more) begun'

-- the same between two points of a session
abbrev pub FlowsBetween : {W : ℕ} → Result Turn Failed → Config → List ℕ → Point W → Point W
    → Type 0
FlowsBetween result config piece old new =
    FlowsOn result config old.moment new.moment old.cutter.held new.cutter.held piece
    old.written new.written

-- how the session ends where the input does
abbrev pub EndIs : {W : ℕ} → Result Turn Failed → Config → Start → Moment W → List ℕ → List ℕ
    → Type 0
EndIs (Ok turn) config start now bytes output =
    HasServed config start now (before_quit config (lines bytes true)) output
EndIs (Err failed) config start now bytes output =
    WasRefused config start now (lines bytes true) output (length (ended_lines [] bytes))

-- the end of the input ends a session so, whatever it had answered before
abbrev pub EndsOn : {W : ℕ} → Result Turn Failed → Config → Moment W → Moment W
    → Option (List ℕ) → Option (List ℕ) → Option (List ℕ) → Type 0
EndsOn {W} result config old new begun before after =
    (start : Start) (bytes output : List ℕ) → GoesOn config start old bytes output begun →
    (more : List ℕ) × Appends before after more
    × EndIs result config start new bytes (output ++ more)

-- the same between two points of a session
abbrev pub EndsBetween : {W : ℕ} → Result Turn Failed → Config → Point W → Point W → Type 0
EndsBetween result config old new =
    EndsOn result config old.moment new.moment old.cutter.held old.written new.written
