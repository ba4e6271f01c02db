use Rattle.std.proofs.Common.{◌≤◌, length}
use Rattle.sample_table.specs.Sums.{IsCountRow}
use Rattle.sample_table.proofs.SumLemmas.{AreJointFrom}
use Rattle.sample_table.proofs.least_sums.add_row.Given as goal

abbrev pub invariant-loop-units : goal.invariant-loop-units
invariant-loop-units l =
    (l.units ≤ length l.fn.sums) × IsCountRow (length l.fn.sums) l.sums × AreJointFrom (length l.fn.sums) l.row l.fn.sums l.sums l.units

abbrev pub decreases-loop-units : goal.decreases-loop-units
decreases-loop-units l = l.units
