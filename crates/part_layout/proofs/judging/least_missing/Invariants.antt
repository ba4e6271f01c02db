use Rattle.std.proofs.Common.{◌≡◌, ℕ, ◌-◌, not, List}
use Rattle.std.specs.List.{find, range_with_len}
use Rattle.part_layout.specs.Faults.{least_missing, stands_in}
use Rattle.part_layout.specs.ReadOn.{Tells}
use Rattle.part_layout.proofs.judging.least_missing.Given as goal

abbrev pub invariant-loop-position : goal.invariant-loop-position
invariant-loop-position l =
    (numbers : List ℕ) → Tells l.table numbers
    → least_missing l.bits numbers ≡ find (λ position. not (stands_in numbers position)) (range_with_len l.position (l.bits - l.position))
