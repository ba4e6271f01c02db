use Rattle.std.proofs.Common.{◌≡◌, take}
use Rattle.shard_version.specs.KeptRows.{row_buckets_of}
use Rattle.shard_version.proofs.keyed_rows.KeyedRows.copy.Given as goal

abbrev pub invariant-loop-bucket : goal.invariant-loop-bucket
invariant-loop-bucket g l = row_buckets_of l.copies.items ≡ take l.bucket-index (row_buckets_of l.self-inside.buckets.items)
