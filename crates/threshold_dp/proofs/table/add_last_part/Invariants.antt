use Rattle.threshold_dp.specs.Table.{IsLastRow}
use Rattle.threshold_dp.proofs.table.add_last_part.Given as goal

abbrev pub invariant-loop-units : goal.invariant-loop-units
invariant-loop-units l = IsLastRow l.units l.asked l.costs l.picks
