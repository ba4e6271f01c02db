use Rattle.std.proofs.Common.{◌≡◌, ◌+◌, ◌≤◌, length}
use Rattle.part_layout.specs.Faults.{first_wide}
use Rattle.part_layout.specs.ReadOn.{numbers_left, parts_left, IsRest}
use Rattle.part_layout.proofs.JudgeLemmas.{wide_from}
use Rattle.part_layout.proofs.judging.first_wide.Given as goal

abbrev pub invariant-loop-listed : goal.invariant-loop-listed
invariant-loop-listed l =
    IsRest l.rest
    × (l.width ≤ 12)
    × (l.part + length (numbers_left l.rest) ≤ 256)
    × (first_wide (parts_left l.text) ≡ wide_from l.part l.width (parts_left l.rest))

abbrev pub decreases-loop-listed : goal.decreases-loop-listed
decreases-loop-listed l = length l.rest
