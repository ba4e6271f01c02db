-- What became of a shard in a turn, and how many there were of each.
use Rattle.std.specs.Prelude.{ℕ, ◌+◌}
use Rattle.shard_rebuild.specs.declared.answer.SwapAnswer.{SwapAnswer}
use Rattle.shard_rebuild.specs.declared.answer.SwapAnswer.TheVariants as answer
use Rattle.shard_tending.specs.declared.outcome.ShardTurn.{ShardTurn}
use Rattle.shard_tending.specs.declared.outcome.ShardTurn.TheVariants.{Stays, Swapped, Moved, NoMemory}
use Rattle.shard_tending.specs.declared.tended.Tended.{Tended}

-- what becomes of a shard by the answer to its swap
abbrev pub outcome_of : {W : ℕ} → SwapAnswer W → ShardTurn
outcome_of (answer.Swapped at) = Swapped
outcome_of (answer.Moved front shard_at back) = Moved
outcome_of (answer.NoMemory back) = NoMemory

-- one for a shard that was swapped
abbrev pub swaps_in : ShardTurn → ℕ
swaps_in Stays = 0
swaps_in Swapped = 1
swaps_in Moved = 0
swaps_in NoMemory = 0

-- one for a shard that had moved
abbrev pub moves_in : ShardTurn → ℕ
moves_in Stays = 0
moves_in Swapped = 0
moves_in Moved = 1
moves_in NoMemory = 0

-- one for a shard on which there was no memory
abbrev pub wants_in : ShardTurn → ℕ
wants_in Stays = 0
wants_in Swapped = 0
wants_in Moved = 0
wants_in NoMemory = 1

-- with one shard more
abbrev pub counted_turn : Tended → ShardTurn → Tended
counted_turn tended turn = record {
  swapped = tended.swapped + swaps_in turn;
  moved = tended.moved + moves_in turn;
  nomem = tended.nomem + wants_in turn;
}

-- how many shards were swapped, had moved, or found no memory
abbrev pub turns_in : Tended → ℕ
turns_in tended = tended.swapped + tended.moved + tended.nomem
