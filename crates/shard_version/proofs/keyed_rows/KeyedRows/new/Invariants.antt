use Rattle.std.proofs.Common.{◌≡◌, [], replicate}
use Rattle.shard_version.specs.KeptRows.{row_buckets_of}
use Rattle.shard_version.proofs.keyed_rows.KeyedRows.new.Given as goal

abbrev pub invariant-loop-i : goal.invariant-loop-i
invariant-loop-i g l = row_buckets_of l.buckets.items ≡ replicate l._i []
