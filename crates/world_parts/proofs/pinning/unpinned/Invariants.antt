-- What the loop keeps: those of the first shards that aren't pinned are counted.
use Rattle.std.proofs.Common.{◌≡◌, ◌≤◌, take}
use Rattle.world_parts.specs.Pinned.{missing}
use Rattle.world_parts.proofs.pinning.unpinned.Given as goal

abbrev pub invariant-loop-shard : goal.invariant-loop-shard
invariant-loop-shard g l = (l.left ≡ missing (take l.shard l.pins)) × (l.left ≤ l.shard)
