use Rattle.std.proofs.Common.{◌≡◌, ◌<◌, ◌≤◌, length}
use Rattle.part_layout.specs.ReadOn.{parts_left, IsRest}
use Rattle.part_layout.proofs.JudgeLemmas.{after_part}
use Rattle.part_layout.proofs.spelling.first_part.Given as goal

abbrev pub invariant-loop-listed : goal.invariant-loop-listed
invariant-loop-listed l =
    IsRest l.rest × (0 < length l.rest) × (length l.rest ≤ length l.text) × (parts_left l.text ≡ after_part l.part.items (parts_left l.rest))

abbrev pub decreases-loop-listed : goal.decreases-loop-listed
decreases-loop-listed l = length l.rest
