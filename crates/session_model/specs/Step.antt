-- One line and its replies: what a session may answer, and what it then knows.
use Rattle.std.specs.Prelude.{◌≡◌, ℕ, ◌⊎◌, List, [], ◌∷◌, length}
use Rattle.std.specs.Prelude.{Option, Some, None, Result, Ok, Err}
use Rattle.std.specs.List.{AllByRecursion}
use Rattle.hamming_model.specs.History.{JournalEntry}
use Rattle.hamming_model.specs.History as journal
use Rattle.hamming_model.specs.Layouts.{IsLayout}
use Rattle.hamming_model.specs.Scan as ask
use Rattle.part_layout.specs.declared.config.Config.{Config}
use Rattle.part_layout.specs.Text.{layout_text}
use Rattle.query_protocol.specs.Requests.{LineRequest, Add, Del, Get, Range, Near, Next, Cost}
use Rattle.query_protocol.specs.Requests.{Plan, Cancel, Layout, Repart, Build, Swap, Search, Quit}
use Rattle.query_protocol.specs.Lines.{reading}
use Rattle.query_protocol.specs.declared.bad.Bad.{Bad}
use Rattle.query_protocol.specs.Replies as reply
use Rattle.session_model.specs.State.{State, query_of}
use Rattle.session_model.specs.Ledger.{layout_at}
use Rattle.session_model.specs.Entries.{Exchange, Stays, Refuses, Adds, RefusesTaken, Fills}
use Rattle.session_model.specs.Entries.{Deletes, RefusesAbsent, Gets}
use Rattle.session_model.specs.Openings.{OpensUnlessUsed}
use Rattle.session_model.specs.QuerySteps.{Gives, Costs, TellsPlan, Cancels, IfOpen}
use Rattle.session_model.specs.Builds.{StartsUnlessBuilding, IfBuilding, PlacesMoreRows, SwapsIfPlaced}
use Rattle.session_model.specs.Searches.{SearchesLayout}

-- what a line asks of a session
abbrev pub asked_by : Config → List ℕ → Result (Option LineRequest) Bad
asked_by config line = reading config line

-- what is answered to what a line asks; `quit` isn't answered
abbrev pub Answers : Result (Option LineRequest) Bad → Config → List JournalEntry → State → Exchange
    → State → Type 0
Answers (Err fault) config history s e t = Stays (reply.Bad fault ∷ []) s e t
Answers (Ok None) config history s e t = Stays [] s e t
Answers (Ok (Some (Add key code))) config history s e t =
    Refuses s e t
    ⊎ (Adds config history key code s e t
    ⊎ (RefusesTaken config history key code s e t
    ⊎ Fills config history (journal.Add key code) s e t))
Answers (Ok (Some (Del key))) config history s e t =
    Refuses s e t
    ⊎ (Deletes config history key s e t
    ⊎ (RefusesAbsent config history key s e t
    ⊎ Fills config history (journal.Delete key) s e t))
Answers (Ok (Some (Get key))) config history s e t = Gets history key s e t
Answers (Ok (Some (Range tag tau code))) config history s e t =
    OpensUnlessUsed (query_of tag s.queries) history tag (ask.Range tau code) s e t
Answers (Ok (Some (Near tag number code))) config history s e t =
    OpensUnlessUsed (query_of tag s.queries) history tag (ask.Near number code) s e t
Answers (Ok (Some (Next tag count))) config history s e t =
    IfOpen (query_of tag s.queries) (Gives config history tag count) s e t
Answers (Ok (Some (Cost tag))) config history s e t =
    IfOpen (query_of tag s.queries) (Costs config history tag) s e t
Answers (Ok (Some (Plan tag shard))) config history s e t =
    IfOpen (query_of tag s.queries) (TellsPlan config history tag shard) s e t
Answers (Ok (Some (Cancel tag))) config history s e t =
    IfOpen (query_of tag s.queries) (Cancels tag) s e t
Answers (Ok (Some (Layout shard))) config history s e t =
    Stays (reply.Layout shard (layout_text (layout_at e.layouts shard)) ∷ []) s e t
Answers (Ok (Some (Repart shard layout))) config history s e t =
    StartsUnlessBuilding s.build config history shard layout s e t
Answers (Ok (Some (Build number))) config history s e t =
    IfBuilding s.build (PlacesMoreRows number) s e t
Answers (Ok (Some Swap)) config history s e t = IfBuilding s.build (SwapsIfPlaced history) s e t
Answers (Ok (Some (Search shard rounds))) config history s e t =
    Refuses s e t ⊎ SearchesLayout config history shard rounds s e t
Answers (Ok (Some Quit)) config history s e t = ⊥

-- a layout of the session's bits for each shard
pub record AreLayouts (config : Config) (layouts : List (List (List ℕ))) : Type 0 where
  pub number : length layouts ≡ config.shards
  pub each : AllByRecursion (IsLayout config.bits) layouts

-- one step of a session as it was asked to be, in a history
pub record Step (config : Config) (history : List JournalEntry) (s : State) (e : Exchange)
    (t : State) : Type 0 where
  pub layouts : AreLayouts config e.layouts
  pub answers : Answers (asked_by config e.line) config history s e t
