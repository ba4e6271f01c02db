-- One step of a session, from one moment to the next.
use Rattle.std.specs.Prelude.{◌≡◌, ℕ, ◌+◌, true, false, if◌then◌else◌, List, ◌++◌, length}
use Rattle.std.specs.Prelude.{Option, Some, Result, Ok, OnOk}
use Rattle.std.specs.List.{AllByRecursion}
use Rattle.line_io.specs.declared.source.Failed.{Failed}
use Rattle.hamming_model.specs.History.{JournalEntry}
use Rattle.part_layout.specs.declared.config.Config.{Config}
use Rattle.query_protocol.specs.Requests.{LineRequest}
use Rattle.query_protocol.specs.Lines.{reading}
use Rattle.query_protocol.specs.Replies.{LineReply, text}
use Rattle.session_desk.specs.Calls.{one_more}
use Rattle.session_desk.specs.Desks.{DeskState}
use Rattle.session_model.specs.State.{State, open_queries}
use Rattle.session_model.specs.Builds.{was_moved, was_swapped}
use Rattle.session_model.specs.Entries.{Exchange}
use Rattle.session_model.specs.Step.{Step}
use Rattle.session_model.specs.Told.{pinned_by}
use Rattle.session_model.specs.Upkeep.{build_at, build_steps, other_steps}
use Rattle.session_model.specs.Commits.{commit_of}
use Rattle.open_queries.specs.Writing.{Writes}
use Rattle.open_session.specs.KeptBuild.{MeansBuild, StandsFrom, left_in}
use Rattle.open_session.specs.KeptDesk.{LeavesDesk}
use Rattle.open_session.specs.Growth.{HistoryGrows, IsAside}
use Rattle.open_session.specs.LastPins.{LeavesPins}
use Rattle.open_session.specs.Meaning.{Means, AllKeep, IsSettled}
use Rattle.open_session.specs.Pinned.{TellsPinned}
use Rattle.open_session.specs.Moments.{Moment, Point, ReadsTo, Spends, moment_of}
use Rattle.open_session.specs.declared.open_session.Session.{Session}
use Rattle.open_session.specs.Samples.{MeansSamples}

-- a moment means a state, in the history so far
pub record Stands {W : ℕ} (config : Config) (now : Moment W) (history : List JournalEntry)
    (s : State) : Type 0 where
  pub means : Means config now.desk history s
  pub settled : AllByRecursion (IsSettled config history) s.queries
  pub samples : MeansSamples config.bits now.samples s.queries
  pub build : MeansBuild now.desk now.build s.build
  pub keep : AllKeep config history now.cursors (open_queries s.queries)
  pub pinned : TellsPinned config.shards now.pinned (pinned_by s.queries)
  pub position : now.position ≡ s.position

-- upkeep rose by no more than the entries by which the shards were pinned further, the steps for
-- the build, of which its rows that are left were paid for at its start, and those beside
pub record SpendsWithBuild {W : ℕ} (old new : Moment W) (told beside : ℕ) (replies : List LineReply)
    : Type 0 where
  pub spent : Spends old.desk new.desk (old.ledgers.upkeep + left_in old.build)
      (new.ledgers.upkeep + left_in new.build) (beside + build_steps told replies)
  pub stands : StandsFrom (build_at told replies) new.build

-- one line was answered by one step of a session, which leads from one moment to the next; others
-- may have committed before it, and brought a shard beyond its build, unless the desk is alone
pub record OneStep {A : Type 0} (W : ℕ) (config : Config) (history : List JournalEntry) (s : State)
    (line : List ℕ) (before after : Option (List ℕ)) (result : Result A Failed)
    (old new : Moment W) : Type 0 where
  pub exchange : Exchange
  pub state : State
  pub is_line : exchange.line ≡ line
  pub past : List JournalEntry
  pub grows :
      HistoryGrows old.desk.alone s.who history (commit_of s.who config exchange) past
  pub step : (later : List JournalEntry) → Step config (past ++ later) s exchange state
  pub aside : IsAside old.desk.alone config s exchange
  pub seen : exchange.seen ≡ length past
  pub unmoved : old.desk.alone ≡ true → was_moved exchange.replies ≡ false
  pub wrote : Writes before after result (text exchange.replies)
  pub reads : ReadsTo old.ledgers.reads new.ledgers.reads s.queries state.queries
  pub spent : (told : ℕ) → StandsFrom told old.build → SpendsWithBuild old new told
      (other_steps config.shards exchange.replies exchange.seen) exchange.replies
  pub settled : AllByRecursion (IsSettled config past) state.queries
  pub means : Means config new.desk past state
  pub samples : MeansSamples config.bits new.samples state.queries
  pub build : MeansBuild new.desk new.build state.build
  pub keeps : LeavesDesk old.desk new.desk
  pub done : new.desk.done
      ≡ (if was_swapped exchange.replies then one_more old.desk.done else old.desk.done)
  pub late : new.desk.late
      ≡ (if was_moved exchange.replies then one_more old.desk.late else old.desk.late)
  pub keep : OnOk result (AllKeep config past new.cursors (open_queries state.queries))
  pub pinned : TellsPinned config.shards new.pinned (pinned_by state.queries)
  pub pins : LeavesPins (reading config line) exchange.replies exchange.position old.desk new.desk
      old.pinned new.pinned
  pub position : new.position ≡ state.position

-- a request is answered so, whatever line asks it and whatever state the session means
abbrev pub AnswersRequest : {A : Type 0} {W : ℕ} → LineRequest → Result A Failed → Config
    → Option (List ℕ) → Option (List ℕ) → Moment W → Moment W → Type 0
AnswersRequest {A} {W} asked result config before after old new =
    (line : List ℕ) → reading config line ≡ Ok (Some asked) →
    (history : List JournalEntry) (s : State) → Stands config old history s →
    OneStep W config history s line before after result old new

-- a request is answered so between two points of a session
abbrev pub AnswersBetween : {A : Type 0} {W : ℕ} → LineRequest → Result A Failed → Config
    → Point W → Point W → Type 0
AnswersBetween asked result config old new =
    AnswersRequest asked result config old.written new.written old.moment new.moment

-- a request on builds is answered so over a desk: no query reads a posting
abbrev pub AnswersOnBuild : {A : Type 0} {W : ℕ} → LineRequest → Result A Failed → Config
    → DeskState → DeskState → Session W → Session W → ℕ → ℕ → Option (List ℕ) → Option (List ℕ)
    → Type 0
AnswersOnBuild asked result config desk desk' session session' upkeep upkeep' before after =
    (reads : List ℕ) → AnswersRequest asked result config before after
    (moment_of desk session reads upkeep) (moment_of desk' session' reads upkeep')
