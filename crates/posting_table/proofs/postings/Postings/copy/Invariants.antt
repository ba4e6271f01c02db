use Rattle.std.proofs.Common.{◌≡◌, take}
use Rattle.posting_table.specs.Kept.{buckets_of}
use Rattle.posting_table.proofs.postings.Postings.copy.Given as goal

abbrev pub invariant-loop-bucket : goal.invariant-loop-bucket
invariant-loop-bucket g l = buckets_of l.copies.items ≡ take l.bucket-index (buckets_of l.self-inside.buckets.items)
