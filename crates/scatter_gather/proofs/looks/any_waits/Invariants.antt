-- No hit waits at the sources so far.
use Rattle.std.proofs.Common.{◌≡◌, take, false}
use Rattle.std.specs.List.{list_any}
use Rattle.scatter_gather.specs.Gathering.{sources_of}
use Rattle.scatter_gather.specs.Due.{has_head}
use Rattle.scatter_gather.proofs.looks.any_waits.Given as goal

abbrev pub invariant-loop-shard : goal.invariant-loop-shard
invariant-loop-shard g l =
    list_any has_head (take l.shard (sources_of g.H.HitSource.asked g.H.HitSource.standing l.sources)) ≡ false
