-- Fronts that are held, by the numbers of those who hold them.
use Rattle.std.specs.Prelude.{◌≡◌, ℕ, Option, Some, option_map}
use Rattle.commit_journal.specs.Fronts.{FrontState, live_at, position_of}
use Rattle.commit_journal.specs.Journals.{IsLive, JournalState, KnowsFront}

-- the positions of the fronts that are held, by the numbers of their holders
abbrev pub positions_held : (ℕ → Option FrontState) → ℕ → Option ℕ
positions_held fronts number = option_map position_of (fronts number)

-- somebody holds the front of this number
pub record HasHolder (fronts : ℕ → Option FrontState) (id : ℕ) : Type 0 where
  pub holder : ℕ
  pub front : FrontState
  pub holds : fronts holder ≡ Some front
  pub numbered : front.id ≡ id

-- the fronts that are held are exactly the live ones of a journal, each held once
pub record HoldsLive (journal : JournalState) (fronts : ℕ → Option FrontState) : Type 0 where
  pub live : (holder : ℕ) (front : FrontState) → fronts holder ≡ Some front → IsLive journal front
  pub known : (holder : ℕ) (front : FrontState) → fronts holder ≡ Some front
      → KnowsFront journal front
  pub once : (holder other : ℕ) (front second : FrontState) → fronts holder ≡ Some front
      → fronts other ≡ Some second → front.id ≡ second.id → holder ≡ other
  pub all : (id : ℕ) (pair : ℕ × ℕ) → live_at journal.live id ≡ Some pair → HasHolder fronts id
