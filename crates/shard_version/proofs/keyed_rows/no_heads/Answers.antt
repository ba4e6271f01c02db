use Rattle.std.proofs.Common.{arith}
use Rattle.shard_version.proofs.HeadLemmas.{none_taken}
use Rattle.shard_version.proofs.keyed_rows.no_heads.Goals as goal

pub returns : goal.returns
returns c = none_taken c.loop-i.heads.items c.loop-i._i (omega arith) c.loop-i.invariant
