-- What a call makes of a seat and of the place that it visits.
use Rattle.std.specs.Prelude.{◌≡◌, ℕ, suc, ◌<◌, ◌≤◌, get_or, [], None, Some}
use Rattle.hamming_model.specs.History.{Operation}
use Rattle.hamming_model.specs.Recoded.{IsStoredOperation}
use Rattle.part_layout.specs.declared.config.Config.{Config}
use Rattle.commit_journal.specs.Journals.{JournalState}
use Rattle.versioned_shard.specs.Shards.{ShardState}
use mathlib.Core.List.{IsPrefix}
use Rattle.atomic_table.specs.Seated.{TableId}
use Rattle.atomic_table.specs.Table.{Me}
use Rattle.board_seats.specs.declared.rule.Cell.{Cell}
use Rattle.board_seats.specs.declared.rule.View.{View}
use Rattle.board_seats.specs.Rule.{IsBoardShard, IsJournalOf}
use Rattle.board_seats.specs.Views.{IsViewOf, left_shard, taking, taking_shard}

-- a table with a word and a slot for the journal
pub record HasJournal (table : TableId) : Type 0 where
  pub words : 1 ≤ table.words
  pub slots : 1 ≤ table.slots

-- a table with a word and a slot for a shard
pub record HasShard (table : TableId) (k : ℕ) : Type 0 where
  pub words : suc k < table.words
  pub slots : suc k < table.slots

module _ {W : ℕ} where
  -- a seat that holds no place
  pub record IsFree (me : Me (Cell W) (View W)) : Type 0 where
    pub slots : me.1 ≡ []
    pub held : me.0.held ≡ None

  -- the words keep an operation's code of the bits that the board was made for
  pub record IsStoredFor (view : View W) (operation : Operation) : Type 0 where
    pub config : Config
    pub config_is : view.config ≡ Some config
    pub stored : IsStoredOperation W config.bits operation

  -- the journal was taken, and brought home as another, whose history goes on from where it stood
  pub record Visited (after : JournalState → View W → View W)
      (me me' : Me (Cell W) (View W)) : Type 0 where
    pub config : Config
    pub old : JournalState
    pub new : JournalState
    pub sound : IsJournalOf W config old
    pub sound_after : IsJournalOf W config new
    pub grown : IsPrefix old.history new.history
    pub knows : IsViewOf config old me.0
    pub me_is : me' ≡ (after new (taking config old me.0), [])

  -- a shard was taken, and brought home as another
  pub record VisitedShard (k : ℕ) (me me' : Me (Cell W) (View W)) : Type 0 where
    pub config : Config
    pub journal : JournalState
    pub old : ShardState
    pub new : ShardState
    pub sound : IsJournalOf W config journal
    pub stood : IsBoardShard config journal k old
    pub stands : IsBoardShard config journal k new
    pub knows : IsViewOf config journal me.0
    pub left : get_or me.0.left k 0 ≤ old.current.at
    pub never_back : old.current.at ≤ new.current.at
    pub me_is : me' ≡ (left_shard k new (taking_shard config journal k old me.0), [])
