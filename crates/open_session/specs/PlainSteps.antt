-- One step of a session in which nothing is built: all requests but those on builds.
use Rattle.std.specs.Prelude.{◌≡◌, ℕ, Option, Some, Result, Ok, OnOk, List, ◌++◌, length}
use Rattle.std.specs.List.{AllByRecursion}
use Rattle.line_io.specs.declared.source.Failed.{Failed}
use Rattle.hamming_model.specs.History.{JournalEntry}
use Rattle.part_layout.specs.declared.config.Config.{Config}
use Rattle.query_protocol.specs.Requests.{LineRequest}
use Rattle.query_protocol.specs.Lines.{reading}
use Rattle.query_protocol.specs.Replies.{text}
use Rattle.session_desk.specs.Desks.{DeskState}
use Rattle.session_model.specs.State.{State, open_queries}
use Rattle.session_model.specs.Entries.{Exchange}
use Rattle.session_model.specs.Step.{Step}
use Rattle.session_model.specs.Upkeep.{other_steps}
use Rattle.session_model.specs.Commits.{commit_of}
use Rattle.session_model.specs.Told.{pinned_by}
use Rattle.open_queries.specs.Writing.{Writes}
use Rattle.open_session.specs.declared.open_session.Session.{Session}
use Rattle.open_session.specs.KeptDesk.{KeepsDesk}
use Rattle.open_session.specs.Growth.{HistoryGrows, IsAside}
use Rattle.open_session.specs.LastPins.{LeavesPins}
use Rattle.open_session.specs.Meaning.{Means, AllKeep, IsSettled}
use Rattle.open_session.specs.Pinned.{TellsPinned}
use Rattle.open_session.specs.Moments.{Moment, Point, ReadsTo, Spends, moment_of}
use Rattle.open_session.specs.Samples.{MeansSamples}
use Rattle.open_session.specs.Steps.{Stands}

-- one line was answered by one step of a session, which leads from one moment to the next, and in
-- which nothing is built; others may have committed before it, unless the desk is alone
pub record PlainStep {A : Type 0} (W : ℕ) (config : Config) (history : List JournalEntry)
    (s : State) (line : List ℕ) (before after : Option (List ℕ)) (result : Result A Failed)
    (old new : Moment W) : Type 0 where
  pub exchange : Exchange
  pub state : State
  pub is_line : exchange.line ≡ line
  pub past : List JournalEntry
  pub grows :
      HistoryGrows old.desk.alone s.who history (commit_of s.who config exchange) past
  pub step : (later : List JournalEntry) → Step config (past ++ later) s exchange state
  pub aside : IsAside old.desk.alone config s exchange
  pub seen : exchange.seen ≡ length past
  pub wrote : Writes before after result (text exchange.replies)
  pub reads : ReadsTo old.ledgers.reads new.ledgers.reads s.queries state.queries
  pub spent : Spends old.desk new.desk old.ledgers.upkeep new.ledgers.upkeep
      (other_steps config.shards exchange.replies exchange.seen)
  pub settled : AllByRecursion (IsSettled config past) state.queries
  pub samples : MeansSamples config.bits new.samples state.queries
  pub means : Means config new.desk past state
  pub keeps : KeepsDesk old.desk new.desk
  pub keep : OnOk result (AllKeep config past new.cursors (open_queries state.queries))
  pub pinned : TellsPinned config.shards new.pinned (pinned_by state.queries)
  pub pins : LeavesPins (reading config line) exchange.replies exchange.position old.desk new.desk
      old.pinned new.pinned
  pub position : new.position ≡ state.position

-- a request is answered so, whatever line asks it and whatever state the session means
abbrev pub AnswersPlainly : {A : Type 0} {W : ℕ} → LineRequest → Result A Failed → Config
    → Option (List ℕ) → Option (List ℕ) → Moment W → Moment W → Type 0
AnswersPlainly {A} {W} asked result config before after old new =
    (line : List ℕ) → reading config line ≡ Ok (Some asked) →
    (history : List JournalEntry) (s : State) → Stands config old history s →
    PlainStep W config history s line before after result old new

-- a request is answered so between two points of a session
abbrev pub AnswersPlainlyBetween : {A : Type 0} {W : ℕ} → LineRequest → Result A Failed → Config
    → Point W → Point W → Type 0
AnswersPlainlyBetween asked result config old new =
    AnswersPlainly asked result config old.written new.written old.moment new.moment

-- a request is answered so that reads no posting and has no shard follow an entry
abbrev pub AnswersUncounted : {A : Type 0} {W : ℕ} → LineRequest → Result A Failed → Config
    → DeskState → DeskState → Session W → Session W → Option (List ℕ) → Option (List ℕ) → Type 0
AnswersUncounted asked result config desk desk' session session' before after =
    (reads : List ℕ) (upkeep : ℕ) → AnswersPlainly asked result config before after
    (moment_of desk session reads upkeep) (moment_of desk' session' reads upkeep)

-- a request is answered so that reads no posting, while shards may follow entries
abbrev pub AnswersUnread : {A : Type 0} {W : ℕ} → LineRequest → Result A Failed → Config
    → DeskState → DeskState → Session W → Session W → ℕ → ℕ → Option (List ℕ) → Option (List ℕ)
    → Type 0
AnswersUnread asked result config desk desk' session session' upkeep upkeep' before after =
    (reads : List ℕ) → AnswersPlainly asked result config before after
    (moment_of desk session reads upkeep) (moment_of desk' session' reads upkeep')
