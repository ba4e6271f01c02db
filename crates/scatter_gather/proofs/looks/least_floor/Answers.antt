-- One floor more was seen.
use Rattle.std.proofs.Common.{refl, arith, map}
use Rattle.std.proofs.lemmas.List.{length-map}
use Rattle.scatter_gather.specs.Gathering.{source_of}
use Rattle.scatter_gather.specs.Due.{floor_at}
use Rattle.scatter_gather.proofs.MergeLemmas.{read_seen}
use Rattle.scatter_gather.proofs.FloorLemmas.{least_step, least_end}
use Rattle.scatter_gather.proofs.looks.least_floor.Goals as goal

pub loop-shard-preserved : goal.loop-shard-preserved
loop-shard-preserved g c =
    let as_seen = source_of g.H.HitSource.asked g.H.HitSource.standing in
    let at = read_seen as_seen c.args.sources.now c.args.sources.now c.loop-shard.shard c.index-sources-shard.result
    refl (omega (arith, c.loop-shard-test.true)) c.index-sources-shard.is in
    rw (c.lower_floor-least.ensures, c.floor.ensures)
    (least_step floor_at c.loop-shard.least (map as_seen c.args.sources.now) c.loop-shard.shard
    (as_seen c.index-sources-shard.result) _ at.0 at.1 c.loop-shard.invariant)

pub returns : goal.returns
returns g c =
    let as_seen = source_of g.H.HitSource.asked g.H.HitSource.standing in
    least_end floor_at c.loop-shard.least (map as_seen c.args.sources.now) c.loop-shard.shard _
    (omega (arith, c.loop-shard-test.false, length-map c.args.sources.now as_seen)) c.loop-shard.invariant
