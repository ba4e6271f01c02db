-- What a line on open queries is told, and the queries that it leaves.
use Rattle.std.specs.Prelude.{◌≡◌, ℕ, ℤ, ◌+◌, ◌^◌, ◌<◌, ◌≤◌, min, nat_lt}
use Rattle.std.specs.Prelude.{Bool, true, false, if◌then◌else◌, Option, Some, None}
use Rattle.std.specs.Prelude.{List, [], ◌∷◌, ◌++◌, length, map, take, drop, slice_index}
use Rattle.hamming_model.specs.History.{JournalEntry}
use Rattle.hamming_model.specs.declared.hit.Hit.{Hit}
use Rattle.part_layout.specs.declared.config.Config.{Config}
use Rattle.query_protocol.specs.Requests.{bad}
use Rattle.query_protocol.specs.Replies.{LineReply}
use Rattle.query_protocol.specs.Replies as reply
use Rattle.session_model.specs.Ledger.{IsBound, IsPlanOfQuery, answer_to, last_given, sum_of}
use Rattle.session_model.specs.State.{Query, State, replaced}
use Rattle.session_model.specs.Entries.{Exchange, Stays}

-- the replies that give hits
abbrev pub hit_replies : List ℕ → List Hit → List LineReply
hit_replies tag hits = map (λ hit. reply.Hit tag hit.dist hit.key) hits

-- what a request for so many hits is told, of an answer of which some hits were given
abbrev pub next_replies : List ℕ → ℕ → ℕ → List Hit → List LineReply
next_replies tag count given hits =
    hit_replies tag (take count (drop given hits))
    ++ (if nat_lt (given + count) (length hits) then reply.More tag
    else reply.Done tag (length hits)) ∷ []

-- what a query has read on each shard after it read on: no less, and no more where it was done
pub record ReadsOn (query : Query) (reads : List ℕ) : Type 0 where
  pub number : length reads ≡ length query.reads
  pub no_less : (shard : ℕ) → slice_index query.reads shard ≤ slice_index reads shard
  pub stays : query.done ≡ true → reads ≡ query.reads

-- a query that has read so much after so many more hits of an answer were asked: it is done where
-- that reaches the end
abbrev pub given_more : Query → ℕ → List Hit → List ℕ → Query
given_more query count hits reads = record query {
  given = min (query.given + count) (length hits);
  done = if nat_lt (query.given + count) (length hits) then query.done else true;
  reads = reads;
}

-- the next hits of the answer on the query's own prefix
pub record Gives (config : Config) (history : List JournalEntry) (tag : List ℕ) (count : ℕ)
    (query : Query) (s : State) (e : Exchange) (t : State) : Type 0 where
  pub hits : List Hit
  pub hits_are : hits ≡ answer_to config history query
  pub reads : List ℕ
  pub reads_on : ReadsOn query reads
  pub said_is : e.replies ≡ next_replies tag count query.given hits
  pub position : e.position ≡ s.position
  pub given : t ≡ record s { queries = replaced tag (given_more query count hits reads) s.queries }

-- what a query has read so far on all shards, no less than its hits, and the most that it may read
-- for the hits that it has given
pub record Costs (config : Config) (history : List JournalEntry) (tag : List ℕ)
    (query : Query) (s : State) (e : Exchange) (t : State) : Type 0 where
  pub bound : ℕ
  pub is_bound : IsBound config history query (last_given config history query) bound
  pub given : query.given ≤ sum_of query.reads
  pub within : sum_of query.reads ≤ bound
  pub small : bound < 2 ^ 64
  pub said_is : e.replies ≡ reply.Cost tag (sum_of query.reads) bound ∷ []
  pub position : e.position ≡ s.position
  pub same : t ≡ s

-- the first of the cheapest threshold vectors of a query in a shard, with its cost
pub record TellsPlan (config : Config) (history : List JournalEntry) (tag : List ℕ) (shard : ℕ)
    (query : Query) (s : State) (e : Exchange) (t : State) : Type 0 where
  pub thresholds : List ℤ
  pub cost : ℕ
  pub is_plan : IsPlanOfQuery config history query shard thresholds cost
  pub said_is : e.replies ≡ reply.Plan tag shard cost thresholds ∷ []
  pub position : e.position ≡ s.position
  pub same : t ≡ s

-- a query that is closed
abbrev pub closed_query : Query → Query
closed_query query = record query { closed = true }

-- the end of a query of which so many hits were given, told by whether `done` was said
abbrev pub end_reply : Bool → List ℕ → ℕ → LineReply
end_reply done tag given = if done then reply.Closed tag given else reply.Cancelled tag given

-- a query is closed, and its tag is free
pub record Cancels (tag : List ℕ) (query : Query) (s : State) (e : Exchange) (t : State)
    : Type 0 where
  pub said_is : e.replies ≡ end_reply query.done tag query.given ∷ []
  pub position : e.position ≡ s.position
  pub closed : t ≡ record s { queries = replaced tag (closed_query query) s.queries }

-- an answer on the open query of a tag, where it has one
abbrev pub IfOpen
    : Option Query → (Query → State → Exchange → State → Type 0) → State → Exchange → State → Type 0
IfOpen None Answered s e t = Stays (reply.Bad (bad 8) ∷ []) s e t
IfOpen (Some query) Answered s e t = Answered query s e t
