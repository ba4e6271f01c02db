use Rattle.std.proofs.Common.{◌≡◌, ◌-◌, ◌*◌, ◌≤◌, ◌++◌, length, map, drop}
use Rattle.threshold_model.specs.Splits.{threshold_of, units_total}
use Rattle.threshold_dp.specs.Table.{pick_rows, follow}
use Rattle.threshold_dp.proofs.table.read_out.Given as goal

abbrev pub invariant-loop-part : goal.invariant-loop-part
invariant-loop-part l =
    (l.out.room ≡ l.fn.out.room)
    × (length l.out.entries ≡ l.part)
    × (l.left ≤ l.units)
    × (units_total (follow (pick_rows l.width (l.parts - l.part) (drop (l.part * l.width) l.picks)) l.left) ≡ l.left)
    × (l.out.entries ++ map threshold_of (follow (pick_rows l.width (l.parts - l.part) (drop (l.part * l.width) l.picks)) l.left)
    ≡ map threshold_of (follow (pick_rows l.width l.parts l.picks) l.units))
