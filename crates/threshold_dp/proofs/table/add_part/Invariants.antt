use Rattle.std.proofs.Common.{◌≤◌, length}
use Rattle.threshold_dp.specs.Table.{IsRowFrom}
use Rattle.threshold_dp.proofs.table.add_part.Given as goal

abbrev pub invariant-loop-units : goal.invariant-loop-units
invariant-loop-units l = (l.units ≤ length l.asked) × IsRowFrom l.units (length l.asked) l.asked l.fn.costs l.costs l.picks

abbrev pub decreases-loop-units : goal.decreases-loop-units
decreases-loop-units l = l.units
