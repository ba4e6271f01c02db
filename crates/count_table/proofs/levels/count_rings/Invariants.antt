use Rattle.std.proofs.Common.{◌≡◌, ℕ, ◌≤◌, get_or}
use Rattle.count_table.specs.Copies.{count_near}
use Rattle.count_table.specs.Kept.{kept_copies}
use Rattle.count_table.proofs.levels.count_rings.Given as goal

abbrev pub invariant-loop-apart : goal.invariant-loop-apart
invariant-loop-apart l =
    (units : ℕ) → units ≤ l.apart → get_or l.out units 0 ≡ count_near (kept_copies l.flips l.copies) l.value units
