-- What a release may make of the journal or of a shard, and of the seat's view.
use Rattle.std.specs.Prelude.{◌≡◌, ◌≢◌, ℕ, ◌≤◌, ◌⊎◌, List, ◌++◌, Some, None}
use Rattle.std.specs.List.{AllByRecursion}
use Rattle.hamming_model.specs.History.{JournalEntry}
use Rattle.part_layout.specs.declared.config.Config.{Config}
use Rattle.commit_journal.specs.Fronts.{FrontState}
use Rattle.commit_journal.specs.Journals.{IsLive, JournalState, KeepsFronts}
use Rattle.versioned_shard.specs.Rule.{KeepsJournalRule}
use Rattle.versioned_shard.specs.Shards.{ShardState}
use Rattle.board_seats.specs.declared.rule.View.{View}
use Rattle.board_seats.specs.Rule.{IsBoardShard, IsJournalOf}
use Rattle.board_seats.specs.Views.{IsViewOf}

-- the journal goes on by entries of the seat's own number, the fronts of others stay live, each
-- shard keeps its rule, and the view holds nothing any more
pub record Releases {W : ℕ} (config : Config) (view : View W) (old new : JournalState)
    (view' : View W) : Type 0 where
  pub sound : IsJournalOf W config new
  pub more : List JournalEntry
  pub longer : old.history ++ more ≡ new.history
  pub own : (session : ℕ) → view.number ≢ Some session
      → AllByRecursion (λ entry. entry.who ≢ session) more
  pub rises : old.next ≤ new.next
  pub fronts : KeepsFronts old new
  pub live : (front : FrontState) → view.number ≢ Some front.who → IsLive old front
      → IsLive new front
  pub shards : (shard : ShardState) → KeepsJournalRule old shard → KeepsJournalRule new shard
  pub held : view'.held ≡ None
  pub left : view'.left ≡ view.left
  pub number : (session : ℕ) → view'.number ≡ Some session
      → (view.number ≡ Some session) ⊎ (session ≡ old.next)
  pub knows : IsViewOf config new view'

-- a shard goes on, and stands for its place along whatever journal fits what the view knows
pub record ReleasesShard {W : ℕ} (config : Config) (view : View W) (k : ℕ)
    (old new : ShardState) : Type 0 where
  pub rises : old.current.at ≤ new.current.at
  pub stands : (journal : JournalState) → IsJournalOf W config journal
      → IsViewOf config journal view → IsBoardShard config journal k old
      → IsBoardShard config journal k new
