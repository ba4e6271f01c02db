use Rattle.std.proofs.Common.{◌≡◌, ◌+◌, replicate}
use Rattle.sample_table.specs.Sums.{kept_rows}
use Rattle.sample_table.proofs.sample_table.SampleTable.new.Given as goal

abbrev pub invariant-loop-part : goal.invariant-loop-part
invariant-loop-part l = kept_rows l.rows.items ≡ replicate l._part (replicate (l.tau + 2) 0)
