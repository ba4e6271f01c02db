use Rattle.std.proofs.Common.{◌≡◌, length}
use Rattle.part_layout.specs.Faults.{first_beyond}
use Rattle.part_layout.specs.ReadOn.{numbers_left, IsRest}
use Rattle.part_layout.proofs.judging.first_beyond.Given as goal

abbrev pub invariant-loop-listed : goal.invariant-loop-listed
invariant-loop-listed l =
    IsRest l.rest × (first_beyond l.bits (numbers_left l.text) ≡ first_beyond l.bits (numbers_left l.rest))

abbrev pub decreases-loop-listed : goal.decreases-loop-listed
decreases-loop-listed l = length l.rest
