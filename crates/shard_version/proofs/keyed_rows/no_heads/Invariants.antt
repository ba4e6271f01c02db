use Rattle.std.proofs.Common.{◌≡◌, replicate}
use Rattle.shard_version.proofs.keyed_rows.no_heads.Given as goal

abbrev pub invariant-loop-i : goal.invariant-loop-i
invariant-loop-i l = l.heads.items ≡ replicate l._i 0
