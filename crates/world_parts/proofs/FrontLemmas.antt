-- Fronts that are opened and closed.
use Rattle.std.proofs.Common.{◌≡◌, ℕ, length, ap, ◌∙◌}
use Rattle.commit_journal.specs.Fronts.{FrontState, Live}
use Rattle.commit_journal.specs.Journals.{JournalState, Opens, without_front}
use Rattle.world_bridge.proofs.HeldLemmas.{live_closed_again}

-- a front that was opened and closed again leaves the journal as it was
pub closed_again : (old mid : JournalState) (session : ℕ) (front : FrontState) → Opens old mid session front → without_front mid front.id ≡ old
closed_again old mid session front opens =
    ap (λ (state : JournalState). without_front state front.id) opens.after
    ∙ ap (λ (live : Live). let state : JournalState = record old { live = live } in state)
    (live_closed_again old.live front.id (session, length old.history) opens.fresh)
