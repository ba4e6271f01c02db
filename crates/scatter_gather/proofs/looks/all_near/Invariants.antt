-- The hits of each source so far are all its rows.
use Rattle.std.proofs.Common.{◌≡◌, take, true}
use Rattle.std.specs.List.{list_all}
use Rattle.scatter_gather.specs.Gathering.{Source, sources_of}
use Rattle.scatter_gather.proofs.looks.all_near.Given as goal

abbrev pub invariant-loop-shard : goal.invariant-loop-shard
invariant-loop-shard g l =
    list_all (λ (s : Source). s.asked.near)
    (take l.shard (sources_of g.H.HitSource.asked g.H.HitSource.standing l.sources)) ≡ true
