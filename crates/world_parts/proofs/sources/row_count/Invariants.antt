-- What the loop keeps: the rows of the first shards are counted.
use Rattle.std.proofs.Common.{◌≡◌, ◌*◌, ◌≤◌, take}
use Rattle.std.specs.List.{sum_by}
use Rattle.hamming_model.specs.declared.limits.TheConstants.{ENTRIES_MOST}
use Rattle.world_parts.specs.Pinned.{rows_pinned}
use Rattle.world_parts.proofs.sources.row_count.Given as goal

abbrev pub invariant-loop-shard : goal.invariant-loop-shard
invariant-loop-shard g l = (l.rows ≡ sum_by rows_pinned (take l.shard l.pins)) × (l.rows ≤ l.shard * ENTRIES_MOST)
