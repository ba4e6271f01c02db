use Rattle.std.proofs.Common.{◌≡◌, ◌≤◌, ◌-◌, false, All, length, take}
use Rattle.part_layout.specs.ReadOn.{is_mark}
use Rattle.part_layout.proofs.cursor.first_mark.Given as goal

abbrev pub invariant-loop-end : goal.invariant-loop-end
invariant-loop-end l = (l.end ≤ length l.text) × All (λ byte. is_mark byte ≡ false) (take l.end l.text)

abbrev pub decreases-loop-end : goal.decreases-loop-end
decreases-loop-end l = length l.text - l.end
