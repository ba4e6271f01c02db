-- The least floor so far, with those that are left, is that of all.
use Rattle.std.proofs.Common.{◌≡◌, drop}
use Rattle.scatter_gather.specs.Gathering.{sources_of}
use Rattle.scatter_gather.specs.Due.{lower, least_floor}
use Rattle.scatter_gather.proofs.looks.least_floor.Given as goal

abbrev pub invariant-loop-shard : goal.invariant-loop-shard
invariant-loop-shard g l =
    lower l.least (least_floor (drop l.shard (sources_of g.H.HitSource.asked g.H.HitSource.standing l.sources)))
    ≡ least_floor (sources_of g.H.HitSource.asked g.H.HitSource.standing l.sources)
