use Rattle.std.proofs.Common.{◌≡◌, ℕ, ◌+◌, ◌<◌, ◌≤◌, length, slice_index, sum, take}
use Rattle.sample_table.proofs.levels.add_up.Given as goal

abbrev pub invariant-loop-at : goal.invariant-loop-at
invariant-loop-at l =
    (length l.out ≡ length l.fn.out)
    × ((place : ℕ) → place < length l.fn.out → place < l.at → slice_index l.out place ≡ sum (take (place + 1) l.fn.out))
    × ((place : ℕ) → place < length l.fn.out → l.at ≤ place → slice_index l.out place ≡ slice_index l.fn.out place)
