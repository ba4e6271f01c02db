use Rattle.std.proofs.Common.{◌≡◌}
use Rattle.count_table.specs.Copies.{count_near}
use Rattle.count_table.specs.Kept.{kept_copies}
use Rattle.count_table.proofs.levels.count_within.Given as goal

abbrev pub invariant-loop-apart : goal.invariant-loop-apart
invariant-loop-apart l = l.count ≡ count_near (kept_copies l.flips l.copies) l.value l.apart
