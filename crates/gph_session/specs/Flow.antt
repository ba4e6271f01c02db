-- What a session has written for what it has read, while it goes on.
-- No public clause cites this module.
use Rattle.std.specs.Prelude.{◌≡◌, ℕ, ◌+◌, ◌≤◌, min, true, false, if◌then◌else◌, Option}
use Rattle.std.specs.Prelude.{List, [], ◌++◌, length, replicate}
use Rattle.std.specs.List.{AllByRecursion}
use Rattle.byte_lines.specs.Cut.{held_of}
use Rattle.byte_lines.specs.Lines.{ended_lines, unended}
use Rattle.hamming_model.specs.History.{JournalEntry}
use Rattle.part_layout.specs.declared.config.Config.{Config}
use Rattle.session_desk.specs.Desks.{DeskState, seen_history}
use Rattle.part_layout.specs.Contiguous.{contiguous}
use Rattle.session_model.specs.State.{State, new_session, open_queries}
use Rattle.session_model.specs.Entries.{Exchange}
use Rattle.session_model.specs.Step.{AreLayouts}
use Rattle.session_model.specs.Ledger.{Ledgers}
use Rattle.session_model.specs.Builds.{swaps_of, was_moved}
use Rattle.session_model.specs.Upkeep.{all_build_steps, all_other_steps, build_after}
use Rattle.session_model.specs.Commits.{commits, entries_by, requests_of}
use Rattle.session_model.specs.Told.{pinned_by}
use Rattle.session_model.specs.Run.{Run, written_text, lines_of}
use Rattle.open_session.specs.Growth.{IsAside}
use Rattle.open_session.specs.LastPins.{TellsLastPins}
use Rattle.open_session.specs.Moments.{Moment, ReadsTo, Spends}
use Rattle.open_session.specs.Meaning.{Means, AllKeep, IsSettled}
use Rattle.open_session.specs.Pinned.{TellsPinned}
use Rattle.open_session.specs.KeptBuild.{MeansBuild, StandsFrom, left_in}
use Rattle.open_session.specs.KeptDesk.{LeavesDesk, layouts_of}
use Rattle.open_session.specs.Samples.{MeansSamples}
use Rattle.gph_session.specs.Sessions.{RisesByCount, Told, moves_of}

-- what a session began with
pub record Start : Type 0 where
  pub desk : DeskState
  pub ledgers : Ledgers

-- the layouts with which a session's state begins: those of the shards of a desk that is alone, and
-- else contiguous ones, on which nothing hangs
abbrev pub first_layouts : DeskState → List (List (List ℕ))
first_layouts desk =
    if desk.alone then layouts_of desk
    else replicate desk.config.shards (contiguous desk.config.bits desk.config.parts)

-- the state in which a session over a desk begins
abbrev pub begun_state : DeskState → State
begun_state desk = new_session desk.who (length desk.seen) (first_layouts desk)

-- what a session would tell of itself at a moment
abbrev pub told_so_far : {W : ℕ} → Moment W → Told
told_so_far now = record {
  requests = now.requests;
  position = now.position;
  layouts = now.pinned.told;
}

-- these exchanges lead a session from what it began with to a moment and a state
pub record HasRun {W : ℕ} (config : Config) (start : Start) (now : Moment W)
    (exchanges : List Exchange) (state : State) : Type 0 where
  pub first : AreLayouts config (first_layouts start.desk)
  pub run : (later : List JournalEntry) → Run (IsAside start.desk.alone config) config
      (seen_history now.desk ++ later) (begun_state start.desk) exchanges state
  pub more : List JournalEntry
  pub longer : seen_history now.desk ≡ seen_history start.desk ++ more
  pub own : entries_by start.desk.who more ≡ commits start.desk.who config exchanges
  pub whole : start.desk.alone ≡ true → more ≡ commits start.desk.who config exchanges
  pub reads : ReadsTo start.ledgers.reads now.ledgers.reads [] state.queries
  pub unmoved :
      start.desk.alone ≡ true → AllByRecursion (λ e. was_moved e.replies ≡ false) exchanges
  pub each_seen : AllByRecursion (λ e. e.seen ≤ length now.desk.seen) exchanges
  pub spent : Spends start.desk now.desk start.ledgers.upkeep
      (now.ledgers.upkeep + left_in now.build)
      (all_other_steps config.shards exchanges + all_build_steps 0 exchanges)
  pub stands : StandsFrom (build_after 0 exchanges) now.build
  pub means : Means config now.desk (seen_history now.desk) state
  pub settled : AllByRecursion (IsSettled config (seen_history now.desk)) state.queries
  pub samples : MeansSamples config.bits now.samples state.queries
  pub build : MeansBuild now.desk now.build state.build
  pub keeps : LeavesDesk start.desk now.desk
  pub done : RisesByCount start.desk.done now.desk.done (swaps_of exchanges)
  pub late : RisesByCount start.desk.late now.desk.late (moves_of exchanges)
  pub pinned : TellsPinned config.shards now.pinned (pinned_by state.queries)
  pub pins : TellsLastPins config exchanges now.desk now.pinned.told
  pub requests : now.requests ≡ min (requests_of config exchanges) 18446744073709551615
  pub position : now.position ≡ state.position

-- the session goes on: all whole lines of these bytes were answered by that output, the rest is
-- kept, and the ledgers rose by what was read since it began
pub record GoesOn {W : ℕ} (config : Config) (start : Start) (now : Moment W)
    (bytes output : List ℕ) (begun : Option (List ℕ)) : Type 0 where
  pub exchanges : List Exchange
  pub state : State
  pub ran : HasRun config start now exchanges state
  pub keep : AllKeep config (seen_history now.desk) now.cursors (open_queries state.queries)
  pub lines_are : lines_of exchanges ≡ ended_lines [] bytes
  pub output_is : output ≡ written_text exchanges
  pub begun_is : begun ≡ held_of (unended [] bytes)

-- what a session begins with at a moment
abbrev pub start_at : {W : ℕ} → Moment W → Start
start_at now = record { desk = now.desk; ledgers = now.ledgers }

-- a session that has read nothing goes on
abbrev pub HasBegunWith : {W : ℕ} → Config → Moment W → Option (List ℕ) → Type 0
HasBegunWith config now begun = GoesOn config (start_at now) now [] [] begun
