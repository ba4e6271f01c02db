use Rattle.std.proofs.Common.{◌≡◌, ◌-◌, ◌*◌, ◌<◌, ◌≤◌, length, drop}
use Rattle.threshold_dp.specs.Table.{pick_rows, IsSolved}
use Rattle.threshold_dp.proofs.table.solve_from.Given as goal

abbrev pub invariant-loop-part : goal.invariant-loop-part
invariant-loop-part g l =
    (l.part < l.parts)
    × (l.first ≤ l.part)
    × (length l.picks ≡ length l.fn.picks)
    × IsSolved (g.C.PartCounts.counts l.counts) l.part (pick_rows l.width (l.parts - l.part) (drop (l.part * l.width) l.picks)) l.costs l.width

abbrev pub decreases-loop-part : goal.decreases-loop-part
decreases-loop-part g l = l.part
