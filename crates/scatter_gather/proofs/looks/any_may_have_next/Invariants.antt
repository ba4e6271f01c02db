-- None of the sources so far may have the next hit.
use Rattle.std.proofs.Common.{◌≡◌, take, false}
use Rattle.std.specs.List.{list_any}
use Rattle.scatter_gather.specs.Gathering.{sources_of}
use Rattle.scatter_gather.specs.Due.{may_have_next}
use Rattle.scatter_gather.proofs.looks.any_may_have_next.Given as goal

abbrev pub invariant-loop-shard : goal.invariant-loop-shard
invariant-loop-shard g l =
    list_any (may_have_next l.least) (take l.shard (sources_of g.H.HitSource.asked g.H.HitSource.standing l.sources))
    ≡ false
