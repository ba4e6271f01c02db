use Rattle.std.proofs.Common.{◌≡◌, ℕ, ◌<◌, List, length, take, get_or}
use Rattle.hamming_model.specs.Layouts.{part_value}
use Rattle.part_layout.specs.Laid.{part_at}
use Rattle.layout_search.proofs.counting.row_values.Given as goal

abbrev pub invariant-loop-at : goal.invariant-loop-at
invariant-loop-at g l =
    (length l.values ≡ length l.rows)
    × ((k : ℕ) (other : ℕ × List ℕ) → k < l.at → get_or l.values k 0 ≡ part_value (take l.layout.bits (get_or l.rows k other).1) (part_at l.layout l.part))
