-- A session over a desk: the state in which it begins, and what it leaves.
use Rattle.std.specs.Prelude.{◌≡◌, ℕ, ◌+◌, ◌≤◌, ◌⊎◌, true, min, List, [], ◌++◌, length, map, count_by}
use Rattle.std.specs.List.{AllByRecursion}
use Rattle.hamming_model.specs.History.{JournalEntry}
use Rattle.part_layout.specs.declared.config.Config.{Config}
use Rattle.session_desk.specs.Desks.{DeskState, seen_history}
use Rattle.open_session.specs.KeptDesk.{LeavesDesk, layouts_of, pins_of}
use Rattle.open_session.specs.LastPins.{TellsLastPins}
use Rattle.session_model.specs.Builds.{swaps_of, was_moved}
use Rattle.session_model.specs.State.{State, new_session}
use Rattle.session_model.specs.Entries.{Exchange}
use Rattle.session_model.specs.Ledger.{IsRise, Rise}
use Rattle.session_model.specs.Step.{AreLayouts}
use Rattle.session_model.specs.Upkeep.{most_upkeep}
use Rattle.session_model.specs.Commits.{commits, requests_of}
use Rattle.session_model.specs.Run.{IsAmongOthers, IsServedAlone, IsSession}
use Rattle.session_model.specs.Told.{ToldLayout, layouts_told}
use Rattle.open_session.specs.Pinned.{told_layout}
use Rattle.session_model.specs.Outside.{Call}
use Rattle.session_model.specs.Outcomes.{EndsWith}
use Rattle.gph_session.specs.declared.report.Report.{Report}

-- the state in which a session over a desk that is alone begins
abbrev pub state_of : DeskState → State
state_of desk = new_session desk.who (length desk.seen) (layouts_of desk)

-- what a session tells of itself: how many lines it answered, the position of the last, and the
-- layouts that its queries pinned
pub record Told : Type 0 where
  pub requests : ℕ
  pub position : ℕ
  pub layouts : List ToldLayout

-- what a report tells
abbrev pub told_by : Report → Told
told_by report = record {
  requests = report.requests;
  position = report.position;
  layouts = map told_layout report.layouts.items;
}

-- what a session tells that answered no line, where its desk has seen this
abbrev pub nothing_told : DeskState → Told
nothing_told desk = record { requests = 0; position = length desk.seen; layouts = [] }

-- a count that stops at the greatest number rose by so many
abbrev pub RisesByCount : ℕ → ℕ → ℕ → Type 0
RisesByCount old new number = (new ≡ old + number) ⊎ (new ≡ 18446744073709551615)

-- how many of the exchanges found the shard of their build beyond it
abbrev pub moves_of : List Exchange → ℕ
moves_of exchanges = count_by (λ e. was_moved e.replies) exchanges

-- a session begins with its desk's number, at a position no shorter than what the desk had seen,
-- and with nothing opened or built; where the desk is alone, at all that was seen and in the
-- layouts of its shards
pub record BeginsOver (config : Config) (old : DeskState) (start : State) : Type 0 where
  pub is_new : start ≡ new_session old.who start.position start.layouts
  pub seen : length old.seen ≤ start.position
  pub are_layouts : AreLayouts config start.layouts
  pub alone : old.alone ≡ true → start ≡ state_of old

-- the exchanges are those of a session over a desk that is alone, which leaves it having seen what
-- it committed, with the shards in the layouts that it put in place, and which tells this of itself
pub record IsServedSolo (old new : DeskState) (told : Told) (config : Config)
    (exchanges : List Exchange) (rise : Rise) : Type 0 where
  pub served : IsServedAlone config (seen_history old) (state_of old) (pins_of old) exchanges rise
  pub seen : seen_history new ≡ seen_history old ++ commits old.who config exchanges
  pub keeps : LeavesDesk old new
  pub layouts : layouts_of new ≡ served.last.layouts
  pub done : RisesByCount old.done new.done (swaps_of exchanges)
  pub requests : told.requests ≡ min (requests_of config exchanges) 18446744073709551615
  pub position : told.position ≡ served.last.position
  pub pinned : told.layouts ≡ layouts_told served.last.queries

-- the exchanges are those of a session over a desk, which leaves it having seen more, and which
-- tells this of itself: others' entries stand between its own, unless the desk is alone
pub record IsServed (old new : DeskState) (told : Told) (config : Config)
    (exchanges : List Exchange) (rise : Rise) : Type 0 where
  pub start : State
  pub begins : BeginsOver config old start
  pub last : State
  pub session : IsSession IsAmongOthers config (seen_history new) start exchanges last
  pub more : List JournalEntry
  pub longer : seen_history new ≡ seen_history old ++ more
  pub each_seen : AllByRecursion (λ e. e.seen ≤ length new.seen) exchanges
  pub within : last.position ≤ length new.seen
  pub ledger : IsRise config (seen_history new) last.queries rise
  pub upkeep : rise.upkeep ≤ most_upkeep config.shards (pins_of old) (length new.seen) exchanges
  pub keeps : LeavesDesk old new
  pub done : RisesByCount old.done new.done (swaps_of exchanges)
  pub late : RisesByCount old.late new.late (moves_of exchanges)
  pub requests : told.requests ≡ min (requests_of config exchanges) 18446744073709551615
  pub position : told.position ≡ last.position
  pub pinned : told.layouts ≡ layouts_told last.queries
  pub pins : TellsLastPins config exchanges new told.layouts
  pub alone : old.alone ≡ true → IsServedSolo old new told config exchanges rise

-- a session over a desk, of which this is the report, ended so, by what it has read, written and
-- counted
abbrev pub EndsBy : ((Config → List Exchange → Rise → Type 0) → Config → Call → Rise → Type 0)
    → Config → Report → DeskState → DeskState → Call → Type 0
EndsBy Ending config report desk desk' =
    EndsWith (Ending (IsServed desk desk' (told_by report)) config)
