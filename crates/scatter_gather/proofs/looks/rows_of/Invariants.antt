-- The rows of the sources so far.
use Rattle.std.proofs.Common.{◌≡◌, take}
use Rattle.std.specs.Prelude.{min, sum_by}
use Rattle.scatter_gather.specs.Gathering.{Source, sources_of}
use Rattle.scatter_gather.proofs.looks.rows_of.Given as goal

abbrev pub invariant-loop-shard : goal.invariant-loop-shard
invariant-loop-shard g l =
    l.rows ≡ min (sum_by (λ (s : Source). s.asked.rows)
    (take l.shard (sources_of g.H.HitSource.asked g.H.HitSource.standing l.sources))) 18446744073709551615
