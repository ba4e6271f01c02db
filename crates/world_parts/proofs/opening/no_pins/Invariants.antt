-- What the loop keeps: none is pinned on the shards so far.
use Rattle.std.proofs.Common.{◌≡◌, replicate, None}
use Rattle.world_parts.proofs.opening.no_pins.Given as goal

abbrev pub invariant-loop-shard : goal.invariant-loop-shard
invariant-loop-shard g l = l.pins.items ≡ replicate l._shard None
