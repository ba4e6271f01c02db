-- What each step tells the seat that makes it.
use Rattle.std.specs.Prelude.{◌≡◌, ℕ, pred, ◌*◌, ◌≤◌, get_or, ◌==◌, List, [], ◌∷◌, length}
use mathlib.Core.Option.{none, some}
use mathlib.Core.Option as core
use Rattle.std.specs.Bool.{MatchBool}
use Rattle.part_layout.specs.declared.config.Config.{Config}
use Rattle.commit_journal.specs.Fronts.{FrontState}
use Rattle.commit_journal.specs.Journals.{JournalState, empty_journal}
use Rattle.versioned_shard.specs.Shards.{ShardState, shard_with}
use Rattle.atomic_table.specs.Table.{Me, Step}
use Rattle.board_seats.specs.declared.rule.Cell.{Cell}
use Rattle.board_seats.specs.declared.rule.View.{View}
use Rattle.board_seats.specs.Rule.{IsBoardShard, IsJournalOf}
use Rattle.board_seats.specs.Views.{IsViewOf, left_shard, settled_view, taking, taking_shard, with_living, with_number}

-- the journal in a cell, and one with no entry where there is none
abbrev pub journal_in : {W : ℕ} → Cell W → JournalState
journal_in (Cell.Journal journal) = journal
journal_in (Cell.Shard shard) = empty_journal 0
journal_in (Cell.Front front) = empty_journal 0

-- the shard in a cell, and one with no row where there is none
abbrev pub shard_in : {W : ℕ} → Cell W → ShardState
shard_in (Cell.Journal journal) = shard_with (record {
  shard = 0;
  shards = 0;
  at = 0;
  layout = record { bits = 0; parts = [] };
  rows = [];
}) []
shard_in (Cell.Shard shard) = shard
shard_in (Cell.Front front) = shard_with (record {
  shard = 0;
  shards = 0;
  at = 0;
  layout = record { bits = 0; parts = [] };
  rows = [];
}) []

-- a front with the fronts behind it
abbrev pub and_front : {W : ℕ} → Cell W → List FrontState → List FrontState
and_front (Cell.Journal journal) fronts = fronts
and_front (Cell.Shard shard) fronts = fronts
and_front (Cell.Front front) fronts = front ∷ fronts

module _ {W : ℕ} where
  -- what lies in the slot that a seat has
  abbrev pub slot_of : List (ℕ × Cell W) → Cell W
  slot_of [] = Cell.Journal (empty_journal 0)
  slot_of (first ∷ rest) = first.1

  -- a claim of the journal that won
  pub record Takes (me : Me (Cell W) (View W)) (n : ℕ) (me' : Me (Cell W) (View W)) : Type 0 where
    pub config : Config
    pub journal : JournalState
    pub me_is : me' ≡ (taking config journal me.0, (0, Cell.Journal journal) ∷ [])
    pub sound : IsJournalOf W config journal
    pub knows : IsViewOf config journal me.0
    pub number : n ≡ 2 * length journal.history

  abbrev pub Looked : Step (Cell W) → Me (Cell W) (View W) → ℕ → Me (Cell W) (View W) → Type 0
  Looked s me n me' = me' ≡ me

  -- the number was the one expected, and the seat has the journal; or nothing changed
  abbrev pub Claimed : Step (Cell W) → Me (Cell W) (View W) → ℕ → Me (Cell W) (View W) → Type 0
  Claimed s me n me' = MatchBool (n == s.first) (Takes me n me') (me' ≡ me)

  abbrev pub Settled : Step (Cell W) → Me (Cell W) (View W) → ℕ → Me (Cell W) (View W) → Type 0
  Settled s me n me' = me' ≡ (settled_view (journal_in (slot_of me.1)) me.0, [])

  -- the view after a release, with the front of a cell that was told
  abbrev pub with_said : core.Option (Cell W) → JournalState → View W → View W
  with_said none journal view = settled_view journal view
  with_said (some cell) journal view =
      record (settled_view journal view) { fronts = and_front cell view.fronts }

  abbrev pub Opened : Step (Cell W) → Me (Cell W) (View W) → ℕ → Me (Cell W) (View W) → Type 0
  Opened s me n me' = me' ≡ (with_said s.said (journal_in (slot_of me.1)) me.0, [])

  abbrev pub Closed : Step (Cell W) → Me (Cell W) (View W) → ℕ → Me (Cell W) (View W) → Type 0
  Closed s me n me' = me' ≡ (with_living (journal_in (slot_of me.1)) me.0, [])

  abbrev pub Drawn : Step (Cell W) → Me (Cell W) (View W) → ℕ → Me (Cell W) (View W) → Type 0
  Drawn s me n me' = me' ≡ (with_number (journal_in (slot_of me.1)) me.0, [])

  -- the seat has seen the whole history, which begins with what it had met
  pub record SeesAll (me me' : Me (Cell W) (View W)) : Type 0 where
    pub config : Config
    pub journal : JournalState
    pub me_is : me' ≡ (record me.0 { seen = journal.history; met = [] }, me.1)
    pub sound : IsJournalOf W config journal
    pub knows : IsViewOf config journal me.0

  abbrev pub Met : Step (Cell W) → Me (Cell W) (View W) → ℕ → Me (Cell W) (View W) → Type 0
  Met s me n me' = SeesAll me me'

  -- a claim of a shard that won: it keeps the rule along a journal that fits what the seat knows
  pub record TakesShard (place : ℕ) (me me' : Me (Cell W) (View W)) : Type 0 where
    pub config : Config
    pub journal : JournalState
    pub shard : ShardState
    pub me_is : me' ≡ (
      taking_shard config journal (pred place) shard me.0,
      (place, Cell.Shard shard) ∷ [],
    )
    pub sound : IsJournalOf W config journal
    pub stands : IsBoardShard config journal (pred place) shard
    pub knows : IsViewOf config journal me.0
    pub left : get_or me.0.left (pred place) 0 ≤ shard.current.at

  abbrev pub ClaimedShard : Step (Cell W) → Me (Cell W) (View W) → ℕ → Me (Cell W) (View W) → Type 0
  ClaimedShard s me n me' = MatchBool (n == s.first) (TakesShard s.word me me') (me' ≡ me)

  abbrev pub LeftShard : Step (Cell W) → Me (Cell W) (View W) → ℕ → Me (Cell W) (View W) → Type 0
  LeftShard s me n me' = me' ≡ (left_shard (pred s.word) (shard_in (slot_of me.1)) me.0, [])

  -- a front lies in the cell
  abbrev pub IsFrontCell : Cell W → Type 0
  IsFrontCell (Cell.Journal journal) = ⊥
  IsFrontCell (Cell.Shard shard) = ⊥
  IsFrontCell (Cell.Front front) = Unit {0}
