-- The layout that a turn searches for on a shard.
use Rattle.std.specs.Prelude.{ℕ, Bool, nat_lt, List, map, take}
use Rattle.hamming_model.specs.History.{rows_of, shard_rows}
use Rattle.exchange_model.specs.Rounds.{PlainSample, improved, search_cost}
use Rattle.part_layout.specs.Laid.{Laid}
use Rattle.session_desk.specs.Desks.{DeskState, place_at, seen_history}
use Rattle.shard_tending.specs.declared.limits.TheConstants.{TENDING_RADIUS, TENDING_ROUNDS, TENDING_ROWS}

-- the code of a row, with the radius of a turn
abbrev pub row_sample : ℕ × List ℕ → PlainSample
row_sample row = record { query = row.1; tau = TENDING_RADIUS }

-- the samples of a turn: the codes of the rows of least key
abbrev pub tending_samples : List (ℕ × List ℕ) → List PlainSample
tending_samples rows = map row_sample (take TENDING_ROWS rows)

-- what a layout costs by them
abbrev pub tending_cost : List (ℕ × List ℕ) → List (List ℕ) → ℕ
tending_cost rows = search_cost rows (tending_samples rows)

-- the layout where the rounds of a turn end
abbrev pub tended_layout : List (ℕ × List ℕ) → Laid → Laid
tended_layout rows layout = record {
  bits = layout.bits;
  parts = (improved (tending_cost rows) TENDING_ROUNDS layout.parts).parts;
}

-- whether it costs less
abbrev pub is_improved : List (ℕ × List ℕ) → Laid → Bool
is_improved rows layout =
    nat_lt (tending_cost rows (tended_layout rows layout).parts) (tending_cost rows layout.parts)

-- ---- of a desk

-- the rows of a shard, after all that the desk has seen
abbrev pub seen_rows : DeskState → ℕ → List (ℕ × List ℕ)
seen_rows desk shard = shard_rows shard desk.config.shards (rows_of (seen_history desk))

-- the layout in which a shard stands
abbrev pub layout_in : DeskState → ℕ → Laid
layout_in desk shard = (place_at desk shard).1

-- the layout where the rounds on a shard end
abbrev pub tended_in : DeskState → ℕ → Laid
tended_in desk shard = tended_layout (seen_rows desk shard) (layout_in desk shard)

-- whether it costs less than the one in which the shard stands
abbrev pub is_improvable : DeskState → ℕ → Bool
is_improvable desk shard = is_improved (seen_rows desk shard) (layout_in desk shard)
