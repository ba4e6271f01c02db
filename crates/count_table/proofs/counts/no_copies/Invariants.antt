use Rattle.std.proofs.Common.{◌≡◌, replicate}
use Rattle.count_table.proofs.counts.no_copies.Given as goal

abbrev pub invariant-loop-i : goal.invariant-loop-i
invariant-loop-i l = l.copies.items ≡ replicate l._i 0
