use Rattle.std.proofs.Common.{◌≡◌, ◌/◌, ◌+◌, ◌-◌, [], replicate}
use Rattle.posting_table.specs.Kept.{buckets_of}
use Rattle.posting_table.proofs.postings.Postings.new.Given as goal

abbrev pub invariant-loop-i : goal.invariant-loop-i
invariant-loop-i g l = buckets_of l.buckets.items ≡ replicate l._i (replicate ((l.values + 256 - 1) / 256) [])
