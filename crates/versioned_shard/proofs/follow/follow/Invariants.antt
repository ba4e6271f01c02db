use Rattle.std.proofs.Common.{◌≡◌, ◌+◌}
use Rattle.versioned_shard.specs.Shards.{contents_at}
use Rattle.versioned_shard.specs.Way.{MadeSoFar}
use Rattle.versioned_shard.proofs.follow.follow.Given as goal

abbrev pub invariant-loop-older : goal.invariant-loop-older
invariant-loop-older g l =
    MadeSoFar l.front (contents_at l.current) l.initial.kept.items l.kept.items (contents_at l.version) l.older-index
    × (l.steps + l.at ≡ l.initial.steps + (contents_at l.version).at)
