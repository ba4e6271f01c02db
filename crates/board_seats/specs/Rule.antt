-- The rule of the board between any two steps.
use Rattle.std.specs.Prelude.{◌≡◌, ◌≢◌, ℕ, suc, ◌+◌, ◌*◌, ◌<◌, ◌≤◌, get_or, ◌⊎◌, List, length, Some}
use mathlib.Core.Option.{none, some}
use lib.ListN.{get_elem?}
use Rattle.std.specs.List.{AllByRecursion}
use Rattle.hamming_model.specs.Recoded.{AreStoredEntries}
use Rattle.hamming_model.specs.declared.limits.TheConstants.{WORDS_MOST}
use Rattle.part_layout.specs.Ranges.{IsConfig}
use Rattle.part_layout.specs.declared.config.Config.{Config}
use Rattle.commit_journal.specs.Journals.{IsJournal, JournalState}
use Rattle.versioned_shard.specs.Rule.{KeepsJournalRule}
use Rattle.versioned_shard.specs.Shards.{ShardState}
use Rattle.atomic_table.specs.Table.{State}
use Rattle.board_seats.specs.declared.rule.Cell.{Cell}
use Rattle.board_seats.specs.declared.rule.View.{View}
use Rattle.board_seats.specs.Views.{IsViewOf}

-- one journal and the shards along it, for one Config
pub record BoardState : Type 0 where
  pub config : Config
  pub journal : JournalState
  pub shards : List ShardState

-- the number in the word of a place is twice this: the entries of a journal, and 0 for a shard
abbrev pub level_of : {W : ℕ} → Cell W → ℕ
level_of (Cell.Journal journal) = length journal.history
level_of (Cell.Shard shard) = 0
level_of (Cell.Front front) = 0

module _ {W : ℕ} (place : ℕ) (cell : Cell W) (s : State (Cell W) (View W)) where
  -- the cell is in its slot, and no view holds the place
  pub record IsAtHome : Type 0 where
    pub word : get_elem? s.words place ≡ some (2 * level_of cell)
    pub home : get_elem? s.homes place ≡ some (some cell)
    pub nobody : (id : ℕ) (view : View W) (other : Cell W) → get_elem? s.views id ≡ some view
        → view.held ≢ Some (place, other)

  -- exactly one view holds the place, with the cell as it was taken
  pub record IsTaken : Type 0 where
    pub word : get_elem? s.words place ≡ some (2 * level_of cell + 1)
    pub home : get_elem? s.homes place ≡ some none
    pub id : ℕ
    pub view : View W
    pub stands : get_elem? s.views id ≡ some view
    pub holds : view.held ≡ Some (place, cell)
    pub alone : (id' : ℕ) (view' : View W) (other : Cell W) → get_elem? s.views id' ≡ some view'
        → view'.held ≡ Some (place, other) → id' ≡ id

  -- the cell stands for the place, at home or taken
  abbrev pub ShowsCell : Type 0
  ShowsCell = IsAtHome ⊎ IsTaken

-- a sound journal of a Config: its entries are of numbers that were drawn, and so many words keep
-- their codes
pub record IsJournalOf (words : ℕ) (config : Config) (journal : JournalState) : Type 0 where
  pub config_is : IsConfig config
  pub few_words : words ≤ WORDS_MOST
  pub room : config.bits ≤ 64 * words
  pub sound : IsJournal journal
  pub drawn : AllByRecursion (λ entry. entry.who < journal.next) journal.history
  pub limit : journal.limit ≡ config.entries
  pub codes : AreStoredEntries words config.bits journal.history

-- the shard of a number keeps its rule along the journal, and is one of those of the Config
pub record IsBoardShard (config : Config) (journal : JournalState) (number : ℕ)
    (shard : ShardState) : Type 0 where
  pub rule : KeepsJournalRule journal shard
  pub shard_is : shard.current.shard ≡ number
  pub shards_are : shard.current.shards ≡ config.shards
  pub bits_are : shard.current.layout.bits ≡ config.bits

-- the journal and each shard are sound
pub record IsBoard (words : ℕ) (board : BoardState) : Type 0 where
  pub journal : IsJournalOf words board.config board.journal
  pub shards : (k : ℕ) (shard : ShardState) → get_elem? board.shards k ≡ some shard
      → IsBoardShard board.config board.journal k shard

-- no shard stands before the position at which a view left it
abbrev pub IsLeftBehind : {W : ℕ} → BoardState → View W → Type 0
IsLeftBehind board view = (k : ℕ) (shard : ShardState) → get_elem? board.shards k ≡ some shard
    → get_or view.left k 0 ≤ shard.current.at

-- a state of the table shows this board: the journal at place 0, shard k at place 1 + k; each view
-- knows what is so of it, and numbers differ
pub record ShowsBoard {W : ℕ} (board : BoardState) (s : State (Cell W) (View W)) : Type 0 where
  pub journal : ShowsCell 0 (Cell.Journal board.journal) s
  pub places : (k : ℕ) (shard : ShardState) → get_elem? board.shards k ≡ some shard
      → ShowsCell (suc k) (Cell.Shard shard) s
  pub sound : IsBoard W board
  pub count : length s.homes ≡ suc (length board.shards)
  pub left : (id : ℕ) (view : View W) → get_elem? s.views id ≡ some view → IsLeftBehind board view
  pub desks : (id : ℕ) (view : View W) → get_elem? s.views id ≡ some view
      → IsViewOf board.config board.journal view
  pub differ : (id id' : ℕ) (view view' : View W) (session : ℕ)
      → get_elem? s.views id ≡ some view → get_elem? s.views id' ≡ some view'
      → view.number ≡ Some session → view'.number ≡ Some session → id ≡ id'

-- the table shows some board
abbrev pub IsShown : {W : ℕ} → State (Cell W) (View W) → Type 0
IsShown s = (board : BoardState) × ShowsBoard board s
