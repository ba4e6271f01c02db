-- What becomes of an opening, between two moments of a session.
-- No public clause cites this module.
use Rattle.std.specs.Prelude.{◌≡◌, ℕ, ◌⊎◌, nat_le, Bool, true, false}
use Rattle.std.specs.Prelude.{List, [], ◌∷◌, ◌++◌, length}
use Rattle.hamming_model.specs.Scan.{Ask}
use Rattle.scatter_gather.specs.Gathering.{Gathered}
use Rattle.open_session.specs.Cursors.{ShardSource}
use Rattle.open_session.specs.Moments.{Moment}
use Rattle.open_session.specs.Samples.{SamplesJoined}
use Rattle.query_protocol.specs.Requests.{bad}
use Rattle.query_protocol.specs.Replies.{LineReply}
use Rattle.query_protocol.specs.Replies as reply
use Rattle.open_queries.specs.Queries.{IsFree, IsUsed, opened_query}
use Rattle.session_model.specs.Openings.{most_open}
use Rattle.query_requests.specs.Opening.{OpensNone, OpensPinned}

-- the tag is used, and nothing is opened
pub record WasUsed {W : ℕ} (old new : Moment W) (tag : List ℕ) (this : LineReply) : Type 0 where
  pub used : IsUsed old.cursors tag
  pub same : new ≡ old
  pub told : this ≡ reply.Bad (bad 7)

-- the tag is free, and as many queries are open as may be or fewer
pub record IsJudged {W : ℕ} (old : Moment W) (tag : List ℕ) (full : Bool) : Type 0 where
  pub free : IsFree old.cursors tag
  pub full_is : nat_le most_open (length old.cursors) ≡ full

-- no more query may be open, and nothing is opened
pub record WasFull {W : ℕ} (old new : Moment W) (tag : List ℕ) (this : LineReply) : Type 0 where
  pub judged : IsJudged old tag true
  pub same : new ≡ old
  pub told : this ≡ reply.Bad (bad 9)

-- there was no memory, and shards may have come further
pub record HadNone {W : ℕ} (old new : Moment W) (tag : List ℕ) (this : LineReply) : Type 0 where
  pub judged : IsJudged old tag false
  pub opens : OpensNone old.desk new.desk old.ledgers.upkeep new.ledgers.upkeep
  pub cursors : new.cursors ≡ old.cursors
  pub pinned : new.pinned ≡ old.pinned
  pub samples : new.samples ≡ old.samples
  pub reads : new.ledgers.reads ≡ old.ledgers.reads
  pub position : new.position ≡ old.position
  pub told : this ≡ reply.NoMemory

-- a query was opened behind the others
pub record WasOpened {W : ℕ} (old new : Moment W) (tag : List ℕ) (asked : Ask) (room : ℕ)
    (this : LineReply) : Type 0 where
  pub judged : IsJudged old tag false
  pub gather : Gathered (ShardSource W)
  pub opened : OpensPinned old.desk new.desk old.pinned new.pinned gather new.position asked room
      old.ledgers.upkeep new.ledgers.upkeep
  pub cursors : new.cursors ≡ old.cursors ++ opened_query tag gather ∷ []
  pub samples : SamplesJoined old.desk.config.bits asked old.samples new.samples
  pub reads : new.ledgers.reads ≡ old.ledgers.reads
  pub told : this ≡ reply.Open tag new.position

-- what becomes of an opening
abbrev pub OpensAs : {W : ℕ} → Moment W → Moment W → List ℕ → Ask → ℕ → LineReply → Type 0
OpensAs {W} old new tag asked room this =
    WasUsed old new tag this
    ⊎ (WasFull old new tag this
    ⊎ (HadNone old new tag this ⊎ WasOpened old new tag asked room this))
