use Rattle.std.proofs.Common.{◌-◌}
use Rattle.sample_table.specs.Sums.{IsLeastAmong}
use Rattle.sample_table.proofs.least_sums.least_joint.Given as goal

abbrev pub invariant-loop-taken : goal.invariant-loop-taken
invariant-loop-taken l = IsLeastAmong l.row l.sums l.units (l.taken - 1) l.least
