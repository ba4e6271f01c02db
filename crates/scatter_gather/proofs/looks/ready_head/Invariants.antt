-- The best of the heads so far; and the least floor so far of the sources at which none waits, with those that are left, is that of all.
use Rattle.std.proofs.Common.{◌≡◌, drop}
use Rattle.scatter_gather.specs.Gathering.{sources_of}
use Rattle.scatter_gather.specs.Due.{lower, least_of}
use Rattle.scatter_gather.specs.Heads.{BestOf, empty_floor}
use Rattle.scatter_gather.proofs.looks.ready_head.Given as goal

abbrev pub invariant-loop-shard : goal.invariant-loop-shard
invariant-loop-shard g l =
    BestOf (sources_of g.H.HitSource.asked g.H.HitSource.standing l.sources) l.shard l.best
    × (lower l.floor (least_of empty_floor
    (drop l.shard (sources_of g.H.HitSource.asked g.H.HitSource.standing l.sources)))
    ≡ least_of empty_floor (sources_of g.H.HitSource.asked g.H.HitSource.standing l.sources))
