-- What the requests on an open query are told, and the queries that they leave.
use Rattle.std.specs.Prelude.{◌≡◌, ℕ, ◌+◌, ◌<◌, ◌≤◌, ◌⊎◌, min, nat_lt, true, if◌then◌else◌}
use Rattle.std.specs.Prelude.{List, length, take, Option, Result, OnOk, slice_index_or}
use Rattle.hamming_model.specs.declared.limits.TheConstants.{PARTS_MOST}
use Rattle.hit_source.specs.Sources.{Asked, Standing}
use Rattle.line_io.specs.declared.source.Failed.{Failed}
use Rattle.query_protocol.specs.Requests.{bad}
use Rattle.query_protocol.specs.Replies.{LineReply, text, reply_line}
use Rattle.query_protocol.specs.Replies as reply
use Rattle.session_model.specs.QuerySteps.{next_replies}
use Rattle.scatter_gather.specs.Gathering.{all_reads, all_bounds}
use Rattle.scatter_gather.specs.Moves.{ReadsRise}
use Rattle.open_queries.specs.declared.open_query.OpenQuery.{OpenQuery}
use Rattle.open_queries.specs.Queries.{asked_in, answer_in, last_in, IsSame, ReadsWithin}
use Rattle.open_queries.specs.Queries.{IsFree, Changes, Removes}
use Rattle.open_queries.specs.Writing.{Writes}

-- ---- next

-- a query after so many more hits were asked: it is done where that reaches the end
pub record IsGiven {S : Type 0} (asks : S → Asked) (count : ℕ) (before after : OpenQuery S)
    : Type 0 where
  pub given : after.gather.given
      ≡ min (before.gather.given + count) (length (answer_in asks before))
  pub done : after.done ≡ (if nat_lt (before.gather.given + count) (length (answer_in asks before))
      then before.done else true)

-- the next hits of a query are given and told, with its end or that there are more, and each ledger
-- rises by the reads of its source: a query that was done reads nothing
pub record GivesQuery {A S : Type 0} (asks : S → Asked) (stands : S → Standing) (tag : List ℕ)
    (count : ℕ) (before after : OpenQuery S) (sink sink' : Option (List ℕ)) (from to : List ℕ)
    (result : Result A Failed) : Type 0 where
  pub tag_same : after.tag ≡ before.tag
  pub limit : after.gather.limit ≡ before.gather.limit
  pub asked : asked_in asks after ≡ asked_in asks before
  pub ledgers : ReadsRise stands before.gather.sources after.gather.sources from to
  pub stays : before.done ≡ true → (after ≡ before) × (to ≡ from)
  pub within : ReadsWithin asks stands after
  pub wrote : Writes sink sink' result
      (text (next_replies tag count before.gather.given (answer_in asks before)))
  pub given : OnOk result (IsGiven asks count before after)

-- what a request for hits gives: those of the tag's query, or that there is none
abbrev pub GivesAs : {A S : Type 0} → (S → Asked) → (S → Standing) → List (OpenQuery S) → List ℕ
    → ℕ → Option (List ℕ) → Option (List ℕ) → List ℕ → List ℕ → Result A Failed
    → List (OpenQuery S) → Type 0
GivesAs {A} {S} asks stands old tag count sink sink' from to result new =
    (IsFree old tag × (new ≡ old) × (to ≡ from)
    × Writes sink sink' result (reply_line (reply.Bad (bad 8))))
    ⊎ ((before : OpenQuery S) × (after : OpenQuery S) × Changes old new tag before after
    × GivesQuery asks stands tag count before after sink sink' from to result)

-- ---- cost and plan

-- an answer on the query of a tag, which leaves it as it was, or that there is none
abbrev pub TellsOfQuery : {S : Type 0} → (S → Asked) → (S → Standing) → List (OpenQuery S) → List ℕ
    → (OpenQuery S → LineReply → Type 0) → LineReply → List (OpenQuery S) → Type 0
TellsOfQuery {S} asks stands old tag Tells this new =
    (IsFree old tag × (new ≡ old) × (this ≡ reply.Bad (bad 8)))
    ⊎ ((before : OpenQuery S) × (after : OpenQuery S) × Changes old new tag before after
    × IsSame asks stands before after × Tells before this)

-- what a query has read, no less than its hits, and what it may read for the hits that it has given
pub record IsCost {S : Type 0} (asks : S → Asked) (stands : S → Standing) (tag : List ℕ)
    (query : OpenQuery S) (this : LineReply) : Type 0 where
  pub told : this ≡ reply.Cost tag (all_reads stands query.gather) (all_bounds asks query.gather)
  pub last : query.gather.last ≡ last_in asks query
  pub given : query.gather.given ≤ all_reads stands query.gather
  pub within : all_reads stands query.gather ≤ all_bounds asks query.gather

-- the same of the query of a tag
abbrev pub CostsAs : {S : Type 0} → (S → Asked) → (S → Standing) → List (OpenQuery S) → List ℕ
    → LineReply → List (OpenQuery S) → Type 0
CostsAs asks stands old tag this new =
    TellsOfQuery asks stands old tag (IsCost asks stands tag) this new

-- the threshold vector of a query in a shard for the distance of the last hit that it gave, and its
-- cost
pub record IsPlan {S : Type 0} (asks : S → Asked) (tag : List ℕ) (shard : ℕ) (query : OpenQuery S)
    (this : LineReply) : Type 0 where
  pub source : S
  pub within : shard < length query.gather.sources
  pub at : (d : S) → slice_index_or query.gather.sources shard d ≡ source
  pub told : this ≡ reply.Plan tag shard ((asks source).plan (last_in asks query)).1
      (take PARTS_MOST ((asks source).plan (last_in asks query)).0)

-- a line that tells it
pub record WritesPlanOf {S : Type 0} (asks : S → Asked) (tag : List ℕ) (shard : ℕ)
    (query : OpenQuery S) (line : List ℕ) : Type 0 where
  pub this : LineReply
  pub is_plan : IsPlan asks tag shard query this
  pub is_line : line ≡ reply_line this

-- the same of the query of a tag
pub record WritesPlan {S : Type 0} (asks : S → Asked) (stands : S → Standing)
    (old : List (OpenQuery S)) (tag : List ℕ) (shard : ℕ) (line : List ℕ)
    (new : List (OpenQuery S)) : Type 0 where
  pub this : LineReply
  pub tells : TellsOfQuery asks stands old tag (IsPlan asks tag shard) this new
  pub is_line : line ≡ reply_line this

-- ---- cancel

-- the reply to the end of a query: that all its hits were given, or how many
abbrev pub reply_to_cancel : {S : Type 0} → List ℕ → OpenQuery S → LineReply
reply_to_cancel tag query =
    if query.done then reply.Closed tag query.gather.given
    else reply.Cancelled tag query.gather.given

-- the query of the tag is taken out, or there is none
abbrev pub CancelsAs : {S : Type 0} → List (OpenQuery S) → List ℕ → LineReply → List (OpenQuery S)
    → Type 0
CancelsAs {S} old tag this new =
    (IsFree old tag × (new ≡ old) × (this ≡ reply.Bad (bad 8)))
    ⊎ ((before : OpenQuery S) × Removes old new tag before × (this ≡ reply_to_cancel tag before))
