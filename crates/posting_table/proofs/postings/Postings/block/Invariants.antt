use Rattle.std.proofs.Common.{◌≡◌, ◌+◌}
use Rattle.posting_table.proofs.postings.Postings.block.Given as goal

abbrev pub invariant-loop-entry : goal.invariant-loop-entry
invariant-loop-entry g l = l.steps ≡ l.fn.steps + l._entry
