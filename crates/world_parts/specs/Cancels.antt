-- How a query is cancelled.
use Rattle.std.specs.Prelude.{◌≡◌, ℕ, [], Option, Some, None, true}
use Rattle.commit_journal.specs.Fronts.{FrontState}
use Rattle.commit_journal.specs.Journals.{JournalState, without_front}
use Rattle.world_parts.specs.declared.held.Held.{Held}

-- a query was cancelled: its front is closed, its versions and sources are let go, and they are
-- known as before
pub record IsCancelled {W : ℕ} (old new : Held W) : Type 0 where
  pub no_pins : new.pins.items ≡ []
  pub rest : new ≡ record old { front = None; pins = new.pins; gather = None; cancelled = true }

-- the journal without a query's front, if that was open
abbrev pub without_held : JournalState → Option FrontState → JournalState
without_held journal None = journal
without_held journal (Some front) = without_front journal front.id
