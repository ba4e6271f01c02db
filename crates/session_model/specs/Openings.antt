-- What a line that opens a query is told, and the query.
use Rattle.std.specs.Prelude.{◌≡◌, ℕ, ◌≤◌, ◌⊎◌, nat_le, Bool, true, false, Option, Some, None}
use Rattle.std.specs.Prelude.{List, [], ◌∷◌, ◌++◌, length, replicate}
use Rattle.hamming_model.specs.History.{JournalEntry}
use Rattle.hamming_model.specs.Scan.{Ask}
use Rattle.query_protocol.specs.Requests.{bad}
use Rattle.query_protocol.specs.Replies as reply
use Rattle.session_model.specs.State.{Query, State, open_queries}
use Rattle.session_model.specs.Entries.{Exchange, Stays, Refuses}

-- the most queries that are open at a time
abbrev pub most_open : ℕ
most_open = 16

-- a query that an exchange opens: it pins the layouts that the line saw, and has given and read
-- nothing
abbrev pub new_query : List ℕ → Ask → Exchange → Query
new_query tag asked e = record {
  tag = tag;
  position = e.position;
  ask = asked;
  pinned = e.layouts;
  given = 0;
  done = false;
  reads = replicate (length e.layouts) 0;
  closed = false;
}

-- a query that is opened at a prefix that is no shorter than the last
pub record OpensQuery (history : List JournalEntry) (tag : List ℕ) (asked : Ask)
    (s : State) (e : Exchange) (t : State) : Type 0 where
  pub not_before : s.position ≤ e.position
  pub within : e.position ≤ length history
  pub said_is : e.replies ≡ reply.Open tag e.position ∷ []
  pub opened : t ≡
      record s { position = e.position; queries = s.queries ++ new_query tag asked e ∷ [] }

-- an opening, where as many queries are open as may be, or fewer
abbrev pub OpensUnlessMany
    : Bool → List JournalEntry → List ℕ → Ask → State → Exchange → State → Type 0
OpensUnlessMany true history tag asked s e t = Stays (reply.Bad (bad 9) ∷ []) s e t
OpensUnlessMany false history tag asked s e t = Refuses s e t ⊎ OpensQuery history tag asked s e t

-- an opening, where the tag has an open query or none
abbrev pub OpensUnlessUsed
    : Option Query → List JournalEntry → List ℕ → Ask → State → Exchange → State → Type 0
OpensUnlessUsed (Some query) history tag asked s e t = Stays (reply.Bad (bad 7) ∷ []) s e t
OpensUnlessUsed None history tag asked s e t =
    OpensUnlessMany (nat_le most_open (length (open_queries s.queries))) history tag asked s e t
