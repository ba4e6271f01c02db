-- One shard more was looked at.
use Rattle.std.proofs.Common.{arith}
use Rattle.world_parts.proofs.ListLemmas.{found_there}
use Rattle.world_parts.proofs.SourceLemmas.{missing_next}
use Rattle.world_parts.proofs.pinning.unpinned.Goals as goal

pub loop-shard-preserved : goal.loop-shard-preserved
loop-shard-preserved g c =
    let found = found_there c.args.pins.now c.loop-shard.shard c.index-pins-shard.result c.loop-shard-test.true c.index-pins-shard.is in
    let more = missing_next c.args.pins.now c.loop-shard.shard c.index-pins-shard.result found in (
      omega (arith, c.loop-shard.invariant.0, more, c.one_if_none-left.ensures.count),
      omega (arith, c.loop-shard.invariant.1, c.one_if_none-left.ensures.few),
    )

pub overflow_add-left : goal.overflow_add-left
overflow_add-left g c = omega (arith, c.loop-shard.invariant.1, c.one_if_none-left.ensures.few, c.loop-shard-test.true, c.requires)
