-- What lies in the slot of a shard that a seat has taken, and how it comes home as it stood.
use Rattle.std.proofs.Common.{◌≡◌, ℕ, suc, pred, ◌<◌, List, ◌∷◌, [], ap, ◌∙◌, sym, subst}
use Rattle.versioned_shard.specs.Shards.{ShardState}
use Rattle.atomic_table.specs.Table.{Allows, Me, rest}
use Rattle.board_seats.specs.declared.rule.Cell.{Cell}
use Rattle.board_seats.specs.declared.rule.View.{View}
use Rattle.board_seats.specs.Moves.{ReleasesShard}
use Rattle.board_seats.specs.Rule.{IsShown}
use Rattle.board_seats.specs.Told.{TakesShard, shard_in}
use Rattle.board_seats.specs.Views.{left_shard}
use Rattle.board_seats.specs.Visits.{VisitedShard}
use Rattle.board_seats.proofs.ShardMoveLemmas.{as_it_stood}
use Rattle.board_seats.proofs.ShardReleaseLemmas.{home_shard, lies_shard, shard_holder, visited_shard}

module _ {W : ℕ} (before me : Me (Cell W) (View W)) (k : ℕ) (t : TakesShard (suc k) before me)
    (place : ℕ) (is : place ≡ suc k) (now : Cell W) (others : List (ℕ × Cell W))
    (value : me.1 ≡ (place, now) ∷ others) where
  pub shard_was : now ≡ Cell.Shard t.shard
  shard_was = lies_shard before me k t place is now others value

  pub shard_there : now ≡ Cell.Shard (shard_in now)
  shard_there = shard_was ∙ ap (λ (z : Cell W). Cell.Shard (shard_in z)) (sym shard_was)

  -- the same of what was taken as of what lies in the slot, and the other way
  pub taken_so : (P : ShardState → Type 0) → P (shard_in now) → P t.shard
  taken_so P = subst P (ap shard_in shard_was)

  pub there_so : (P : ShardState → Type 0) → P t.shard → P (shard_in now)
  there_so P = subst P (sym (ap shard_in shard_was))

  -- ---- the shard as it stood
  module _ (cell : Cell W) (same : cell ≡ now) where
    pub stood_still : ReleasesShard t.config (shard_holder before me k t) k t.shard t.shard
    stood_still = as_it_stood t.config (shard_holder before me k t) k t.shard

    pub home_as_stood : (slots id : ℕ) → suc k < slots
        → Allows IsShown slots id (me.0, (place, cell) ∷ rest me.1) place (λ _. 0)
        (λ _ me'. me' ≡ (left_shard (pred place) (shard_in cell) me.0, []))
    home_as_stood slots id there =
        home_shard before me k t place is t.shard cell (same ∙ shard_was) stood_still slots id there

    abbrev pub visited_as_stood : (me' : Me (Cell W) (View W))
        → me' ≡ (left_shard (pred place) (shard_in cell) me.0, []) → VisitedShard k before me'
    visited_as_stood me' e =
        visited_shard before me k t place is t.shard cell (same ∙ shard_was) stood_still t.stands
        me' e
