-- What a commit leaves of a desk and of the last position, and what it is told.
-- No public clause cites this module.
use Rattle.std.specs.Prelude.{◌≡◌, ℕ, ◌⊎◌}
use Rattle.hamming_model.specs.History.{Operation}
use Rattle.commit_journal.specs.declared.decided.Decided.{Decided}
use Rattle.entry_log.specs.declared.decision.Decision.{Decision}
use Rattle.entry_log.specs.declared.decision.Decision.TheVariants.{Added, Taken, Deleted, Absent, Full}
use Rattle.query_protocol.specs.Replies.{LineReply}
use Rattle.query_protocol.specs.Replies as reply
use Rattle.session_desk.specs.Desks.{DeskState}
use Rattle.session_desk.specs.Calls.{CommitsAt, OnlyLearns}

-- the reply to a decision on the row of a key, at a position
abbrev pub decided_reply : ℕ → Decision → ℕ → LineReply
decided_reply key Added at = reply.Added key at
decided_reply key Taken at = reply.Taken key at
decided_reply key Deleted at = reply.Deleted key at
decided_reply key Absent at = reply.Absent key at
decided_reply key Full at = reply.Full at

-- an operation was decided, and its position is the last one
pub record IsDecided (old new : DeskState) (position key : ℕ) (operation : Operation)
    (this : LineReply) : Type 0 where
  pub decided : Decided
  pub commits : CommitsAt old new operation decided
  pub position_is : position ≡ decided.position
  pub told : this ≡ decided_reply key decided.decision decided.position

-- there was no memory, and nothing changed
pub record HadNoMemory (old new : DeskState) (before position : ℕ) (this : LineReply)
    : Type 0 where
  pub learns : OnlyLearns old new
  pub position_is : position ≡ before
  pub told : this ≡ reply.NoMemory

-- what becomes of a commit
abbrev pub CommitsAs : DeskState → DeskState → ℕ → ℕ → ℕ → Operation → LineReply → Type 0
CommitsAs old new before position key operation this =
    IsDecided old new position key operation this ⊎ HadNoMemory old new before position this
