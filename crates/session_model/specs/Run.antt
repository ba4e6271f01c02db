-- A whole session: its steps in one history, and what is written.
use Rattle.std.specs.Prelude.{◌≡◌, ℕ, ◌+◌, ◌<◌, ◌≤◌, Bool, true, false, if◌then◌else◌}
use Rattle.std.specs.Prelude.{List, [], ◌∷◌, ◌++◌, length, map, take, drop, replicate}
use Rattle.std.specs.Prelude.{Option, Some, Result, Ok}
use Rattle.std.specs.List.{AllByRecursion, flat_map}
use Rattle.hamming_model.specs.History.{JournalEntry}
use Rattle.part_layout.specs.Contiguous.{contiguous}
use Rattle.part_layout.specs.declared.config.Config.{Config}
use Rattle.query_protocol.specs.Requests.{LineRequest, Quit}
use Rattle.query_protocol.specs.Replies.{text}
use Rattle.query_protocol.specs.declared.bad.Bad.{Bad}
use Rattle.session_model.specs.Builds.{was_moved}
use Rattle.session_model.specs.Commits.{commit_of, commits, entries_by}
use Rattle.session_model.specs.Entries.{Exchange}
use Rattle.session_model.specs.Ledger.{Rise, IsRise}
use Rattle.session_model.specs.State.{State, new_session}
use Rattle.session_model.specs.Step.{Step, asked_by}
use Rattle.session_model.specs.Upkeep.{most_upkeep}

-- the exchanges are steps one after another, all in one history, and each meets a side condition
abbrev pub Run : (State → Exchange → Type 0) → Config → List JournalEntry → State → List Exchange
    → State → Type 0
Run At config history s [] t = t ≡ s
Run At config history s (e ∷ exchanges) t =
    (mid : State) × At s e × Step config history s e mid × Run At config history mid exchanges t

-- the exchanges are a session's in a history: its entries beyond the start are just what it commits
pub record IsSession (At : State → Exchange → Type 0) (config : Config)
    (history : List JournalEntry) (start : State) (exchanges : List Exchange) (last : State)
    : Type 0 where
  pub run : Run At config history start exchanges last
  pub own : entries_by start.who (drop start.position history)
      ≡ commits start.who config exchanges

-- nobody else commits or gives a shard another layout: the position is the last one and what this
-- exchange commits, the layouts are the state's, and all entries were seen
pub record IsAlone (config : Config) (s : State) (e : Exchange) : Type 0 where
  pub position : e.position ≡ s.position + length (commit_of s.who config e)
  pub layouts : e.layouts ≡ s.layouts
  pub seen : e.seen ≡ e.position

-- others may commit and give the shards other layouts
abbrev pub IsAmongOthers : State → Exchange → Type 0
IsAmongOthers s e = Unit {0}

-- the exchanges are those of a session that is alone: the history is what stood before it, all of
-- which it has seen, and then what it commits, and nobody else brings a shard beyond a build
pub record IsSolo (config : Config) (before : List JournalEntry) (start : State)
    (exchanges : List Exchange) (last : State) : Type 0 where
  pub begins : start.position ≡ length before
  pub session : IsSession (IsAlone config) config
      (before ++ commits start.who config exchanges) start exchanges last
  pub unmoved : AllByRecursion (λ e. was_moved e.replies ≡ false) exchanges

-- the first session of a server, which has the contiguous layout on each shard
abbrev pub first_session : Config → State
first_session config =
    new_session 0 0 (replicate config.shards (contiguous config.bits config.parts))

-- the exchanges are those of a session that is alone, whose shards had been pinned at these
-- positions before it, and its queries and its upkeep read so much
pub record IsServedAlone (config : Config) (before : List JournalEntry) (start : State)
    (pins : List ℕ) (exchanges : List Exchange) (rise : Rise) : Type 0 where
  pub last : State
  pub solo : IsSolo config before start exchanges last
  pub ledger : IsRise config (before ++ commits start.who config exchanges) last.queries rise
  pub upkeep : rise.upkeep ≤ most_upkeep config.shards pins last.position exchanges

-- the exchanges are those of a first session that is alone, whose queries and upkeep read so much
abbrev pub IsRunAlone : Config → List Exchange → Rise → Type 0
IsRunAlone config = IsServedAlone config [] (first_session config) (replicate config.shards 0)

-- all that is written
abbrev pub written_text : List Exchange → List ℕ
written_text exchanges = flat_map (λ e. text e.replies) exchanges

-- the lines of the exchanges
abbrev pub lines_of : List Exchange → List (List ℕ)
lines_of exchanges = map (λ e. e.line) exchanges

-- a session answers these lines by these bytes, and its queries read so much; `Served` says which
-- exchanges are a session
pub record AnswersLines (Served : List Exchange → Rise → Type 0) (lines : List (List ℕ))
    (bytes : List ℕ) (rise : Rise) : Type 0 where
  pub exchanges : List Exchange
  pub served : Served exchanges rise
  pub lines_are : lines_of exchanges ≡ lines
  pub bytes_are : bytes ≡ written_text exchanges

-- the output is the replies to some of the lines in front, and of the replies to the line after
-- them a part, and the queries of the session that answered these lines read so much
pub record IsRefused (Served : List Exchange → Rise → Type 0) (lines : List (List ℕ))
    (output : List ℕ) (rise : Rise) : Type 0 where
  pub answered : List Exchange
  pub refused : Exchange
  pub rest : List (List ℕ)
  pub served : Served (answered ++ refused ∷ []) rise
  pub lines_are : lines ≡ lines_of answered ++ refused.line ∷ rest
  pub taken : ℕ
  pub not_all : taken < length (text refused.replies)
  pub output_is : output ≡ written_text answered ++ take taken (text refused.replies)

-- the line ends the session
abbrev pub asks_quit : Result (Option LineRequest) Bad → Bool
asks_quit (Ok (Some Quit)) = true
asks_quit asked = false

-- the lines before the first that ends the session
abbrev pub before_quit : Config → List (List ℕ) → List (List ℕ)
before_quit config [] = []
before_quit config (line ∷ lines) =
    if asks_quit (asked_by config line) then [] else line ∷ before_quit config lines

-- one of the lines ends the session
abbrev pub has_quit : Config → List (List ℕ) → Bool
has_quit config [] = false
has_quit config (line ∷ lines) =
    if asks_quit (asked_by config line) then true else has_quit config lines
