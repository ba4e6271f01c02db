use Rattle.std.proofs.Common.{◌≡◌, ◌++◌, length}
use Rattle.part_layout.specs.Kept.{lists_of}
use Rattle.part_layout.specs.ReadOn.{parts_left, IsRest}
use Rattle.part_layout.proofs.spelling.parts_of.Given as goal

abbrev pub invariant-loop-rest : goal.invariant-loop-rest
invariant-loop-rest l = IsRest l.rest × (lists_of l.parts.items ++ parts_left l.rest ≡ parts_left l.text)

abbrev pub decreases-loop-rest : goal.decreases-loop-rest
decreases-loop-rest l = length l.rest
