use Rattle.std.proofs.Common.{◌≡◌, ◌+◌}
use Rattle.versioned_shard.specs.Shards.{contents_at}
use Rattle.versioned_shard.specs.Along.{Reaches}
use Rattle.versioned_shard.proofs.follow.reached.Given as goal

abbrev pub invariant-loop-place : goal.invariant-loop-place
invariant-loop-place g l = Reaches l.front.entries (contents_at l.version) l.place l.next.contents × (l.steps + l.at ≡ l.initial.steps + l.place)
