use Rattle.std.proofs.Common.{◌≡◌, ◌+◌, ◌≤◌, length}
use Rattle.part_layout.specs.ReadOn.{numbers_left, parts_left, IsRest}
use Rattle.part_layout.proofs.judging.number_of_parts.Given as goal

abbrev pub invariant-loop-listed : goal.invariant-loop-listed
invariant-loop-listed l =
    IsRest l.rest
    × (l.count + length (numbers_left l.rest) ≤ 256)
    × (l.count + length (parts_left l.rest) ≡ length (parts_left l.text))

abbrev pub decreases-loop-listed : goal.decreases-loop-listed
decreases-loop-listed l = length l.rest
