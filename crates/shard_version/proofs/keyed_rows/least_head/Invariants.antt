use Rattle.shard_version.specs.KeptRows.{IsLeastHead, row_buckets_of}
use Rattle.shard_version.proofs.keyed_rows.least_head.Given as goal

abbrev pub invariant-loop-at : goal.invariant-loop-at
invariant-loop-at g l = IsLeastHead (row_buckets_of l.buckets) l.heads l.at l.best
