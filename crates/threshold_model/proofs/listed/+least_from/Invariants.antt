use Rattle.std.proofs.Common.{◌≡◌, ◌-◌, ◌*◌, ◌^◌, ◌≤◌}
use Rattle.threshold_model.specs.Splits.{split_cost, table_count, IsBestUpTo}
use Rattle.threshold_model.proofs.listed.+least_from.Given as goal

abbrev pub decreases-least_from : goal.decreases-least_from
decreases-least_from l = l.parts

abbrev pub invariant-loop-pick : goal.invariant-loop-pick
invariant-loop-pick l =
    IsBestUpTo (table_count l.counts l.width) l.part l.parts l.units (l.pick - 1) l.best.units.items
    × (l.best.cost ≡ split_cost (table_count l.counts l.width) l.part l.best.units.items) × (l.best.cost ≤ l.parts * (2 ^ 32 - 1))
