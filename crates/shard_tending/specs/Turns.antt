-- What the turn of one shard makes of a desk. No public clause cites this module.
use Rattle.std.specs.Prelude.{◌≡◌, ℕ, ◌==◌, ◌&&◌, ◌≤◌, nat_lt, true, if◌then◌else◌, length}
use Rattle.std.specs.Arc.{arc_value}
use Rattle.part_layout.specs.Laid.{IsLaid}
use Rattle.shard_version.specs.Contents.{Contents}
use Rattle.layout_search.specs.declared.found.Found.{Found}
use Rattle.session_desk.specs.Desks.{DeskState}
use Rattle.query_opening.specs.Pinning.{IsPinnedShard}
use Rattle.shard_tending.specs.Outcomes.{moves_in, swaps_in, wants_in}
use Rattle.shard_tending.specs.Searched.{is_improvable, is_improved, layout_in, tended_in, tended_layout}
use Rattle.shard_tending.specs.Tending.{IsCountRise, KeepsOwnDesk}
use Rattle.shard_tending.specs.declared.outcome.ShardTurn.{ShardTurn}

-- a shard was pinned at a position between what was seen before and what is seen after
pub record PinsShard (old new : DeskState) (shard : ℕ) (version : Contents) : Type 0 where
  pub pinned : IsPinnedShard old new version.at shard version
  pub after : length old.seen ≤ version.at
  pub within : version.at ≤ length new.seen

-- what was found is where the rounds of a turn end
pub record FindsTended (version : Contents) (found : Found) : Type 0 where
  pub layout : arc_value found.layout ≡ tended_layout version.rows version.layout
  pub cheaper : nat_lt found.after found.before ≡ is_improved version.rows version.layout
  pub laid : IsLaid (arc_value found.layout)

-- over a desk that is alone a shard has the layout that was found where it was swapped, and all
-- others stay
pub record TurnsAlone (old new : DeskState) (shard : ℕ) (turn : ShardTurn) : Type 0 where
  pub never : moves_in turn ≡ 0
  pub which : wants_in turn ≡ 0 → (swaps_in turn == 1) ≡ is_improvable old shard
  pub layouts : (other : ℕ) → layout_in new other
      ≡ (if (other == shard) && (swaps_in turn == 1) then tended_in old shard
      else layout_in old other)

-- the turn of one shard
pub record TurnsShard (old new : DeskState) (shard : ℕ) (turn : ShardTurn) : Type 0 where
  pub keeps : KeepsOwnDesk old new
  pub done : IsCountRise old.done (swaps_in turn) new.done
  pub late : IsCountRise old.late (moves_in turn) new.late
  pub alone : old.alone ≡ true → TurnsAlone old new shard turn
