use Rattle.std.proofs.Common.{◌≡◌, ◌-◌}
use Rattle.threshold_dp.specs.Table.{IsFirstLeast, joint_cost}
use Rattle.threshold_dp.proofs.table.cheapest_units.Given as goal

abbrev pub invariant-loop-pick : goal.invariant-loop-pick
invariant-loop-pick l =
    IsFirstLeast (joint_cost l.asked l.costs l.units) (l.pick - 1) l.best × (l.least ≡ joint_cost l.asked l.costs l.units l.best)
