use Rattle.std.proofs.Common.{◌≡◌, ℕ, ◌<◌, length, slice_index, take, count_by}
use Rattle.sample_table.specs.Sums.{is_last_at}
use Rattle.sample_table.proofs.levels.count_each.Given as goal

abbrev pub invariant-loop-other : goal.invariant-loop-other
invariant-loop-other l =
    (length l.out ≡ length l.fn.out)
    × ((at : ℕ) → at < length l.fn.out → slice_index l.out at ≡ count_by (is_last_at l.value at) (take l.other-index l.values))
