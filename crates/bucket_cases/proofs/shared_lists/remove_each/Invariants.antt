-- What the loop keeps: the table's width.
use Rattle.std.proofs.Common.{◌≡◌}
use Rattle.bucket_cases.proofs.shared_lists.remove_each.Given as goal

abbrev pub invariant-loop-key : goal.invariant-loop-key
invariant-loop-key g l = l.table.width ≡ l.width
