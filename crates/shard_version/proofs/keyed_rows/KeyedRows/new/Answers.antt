use Rattle.std.proofs.Common.{arith}
use Rattle.shard_version.proofs.SharedLemmas.{kept_none, seen_none}
use Rattle.shard_version.proofs.keyed_rows.KeyedRows.new.Goals as goal

pub invariant_of-result : goal.invariant_of-result
invariant_of-result g c = kept_none c.loop-i.buckets.items c.loop-i._i (omega arith) c.loop-i.invariant

pub returns : goal.returns
returns g c = seen_none c.loop-i.buckets.items c.loop-i._i (omega arith) c.loop-i.invariant
