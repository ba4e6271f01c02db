-- What the loop keeps: the contents, and the steps by the rows that are no longer left.
use Rattle.std.proofs.Common.{◌≡◌, ◌+◌, ◌≤◌}
use Rattle.shard_tending.proofs.placing.place_all.Given as goal

abbrev pub invariant-loop-build : goal.invariant-loop-build
invariant-loop-build g l = (l.build.contents ≡ l.fn.build.contents) × (l.upkeep + l.build.left ≤ l.fn.upkeep + l.fn.build.left)

abbrev pub decreases-loop-build : goal.decreases-loop-build
decreases-loop-build g l = l.build.left
