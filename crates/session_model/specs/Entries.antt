-- What a line that changes nothing is told, and what becomes of an operation.
use Rattle.std.specs.Prelude.{◌≡◌, ℕ, ◌-◌, ◌<◌, ◌≤◌, List, [], ◌∷◌, length, take, slice_get}
use Rattle.std.specs.Prelude.{Option, Some, None}
use Rattle.hamming_model.specs.History.{JournalEntry, Operation, Decision}
use Rattle.hamming_model.specs.History.{Added, Taken, Deleted, Absent, Full}
use Rattle.hamming_model.specs.History.{code_at, decision_on, rows_of}
use Rattle.hamming_model.specs.History as journal
use Rattle.part_layout.specs.declared.config.Config.{Config}
use Rattle.query_protocol.specs.Replies.{LineReply}
use Rattle.query_protocol.specs.Replies as reply
use Rattle.session_model.specs.State.{State}

-- a line, its replies, the position that they print or carry on, the layout of each shard as the
-- line saw it, and how many entries the session had seen once it was answered
pub record Exchange : Type 0 where
  pub line : List ℕ
  pub replies : List LineReply
  pub position : ℕ
  pub layouts : List (List (List ℕ))
  pub seen : ℕ

-- these replies, and nothing changes
pub record Stays (said : List LineReply) (s : State) (e : Exchange) (t : State) : Type 0 where
  pub said_is : e.replies ≡ said
  pub position : e.position ≡ s.position
  pub same : t ≡ s

-- want of memory is free
abbrev pub Refuses : State → Exchange → State → Type 0
Refuses s e t = Stays (reply.NoMemory ∷ []) s e t

-- an accepted operation: the entry of this number, beyond the last position, is this session's, and
-- the entries before it accept it
pub record CommitsOperation (config : Config) (history : List JournalEntry) (operation : Operation)
    (accepted : Decision) (said : LineReply) (s : State) (e : Exchange) (t : State) : Type 0 where
  pub later : s.position < e.position
  pub entry : slice_get history (e.position - 1)
      ≡ Some (record { who = s.who; operation = operation })
  pub decided : decision_on (take (e.position - 1) history) config.entries operation ≡ accepted
  pub said_is : e.replies ≡ said ∷ []
  pub position : t ≡ record s { position = e.position }

-- an operation that isn't accepted, for this reason, after a prefix no shorter than the last
pub record Declines (config : Config) (history : List JournalEntry) (operation : Operation)
    (why : Decision) (said : LineReply) (s : State) (e : Exchange) (t : State) : Type 0 where
  pub not_before : s.position ≤ e.position
  pub within : e.position ≤ length history
  pub decided : decision_on (take e.position history) config.entries operation ≡ why
  pub said_is : e.replies ≡ said ∷ []
  pub position : t ≡ record s { position = e.position }

-- an accepted add
abbrev pub Adds : Config → List JournalEntry → ℕ → List ℕ → State → Exchange → State → Type 0
Adds config history key code s e t =
    CommitsOperation config history (journal.Add key code) Added (reply.Added key e.position) s e t

-- a refused add: the key is taken
abbrev pub RefusesTaken
    : Config → List JournalEntry → ℕ → List ℕ → State → Exchange → State → Type 0
RefusesTaken config history key code s e t =
    Declines config history (journal.Add key code) Taken (reply.Taken key e.position) s e t

-- an accepted deletion
abbrev pub Deletes : Config → List JournalEntry → ℕ → State → Exchange → State → Type 0
Deletes config history key s e t =
    CommitsOperation config history (journal.Delete key) Deleted (reply.Deleted key e.position)
    s e t

-- a refused deletion: no row has the key
abbrev pub RefusesAbsent : Config → List JournalEntry → ℕ → State → Exchange → State → Type 0
RefusesAbsent config history key s e t =
    Declines config history (journal.Delete key) Absent (reply.Absent key e.position) s e t

-- a refused operation: as many entries stand as may
abbrev pub Fills : Config → List JournalEntry → Operation → State → Exchange → State → Type 0
Fills config history operation s e t =
    Declines config history operation Full (reply.Full e.position) s e t

-- the code of a key at a position, or that there is none
abbrev pub code_reply : ℕ → Option (List ℕ) → ℕ → LineReply
code_reply key None at = reply.Absent key at
code_reply key (Some code) at = reply.Code key code at

-- the code of a key in the rows of a prefix no shorter than the last
pub record Gets (history : List JournalEntry) (key : ℕ) (s : State) (e : Exchange) (t : State)
    : Type 0 where
  pub not_before : s.position ≤ e.position
  pub within : e.position ≤ length history
  pub said_is : e.replies
      ≡ code_reply key (code_at (rows_of (take e.position history)) key) e.position ∷ []
  pub position : t ≡ record s { position = e.position }
