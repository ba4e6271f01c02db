-- The rows of one shard more.
use Rattle.std.proofs.Common.{ap, arith}
use Rattle.std.proofs.lemmas.List.Sums.{sum_by_more}
use Rattle.world_parts.specs.Pinned.{rows_pinned}
use Rattle.world_parts.proofs.sources.row_count.Goals as goal

pub loop-shard-preserved : goal.loop-shard-preserved
loop-shard-preserved g c =
    let more = sum_by_more rows_pinned c.args.pins.now c.loop-shard.shard c.index-pins-shard.result c.loop-shard-test.true in
    let found = ap rows_pinned c.index-pins-shard.is in (
      omega (arith, c.loop-shard.invariant.0, more, c.rows_of-rows.ensures.rows, found),
      omega (arith, c.loop-shard.invariant.1, c.rows_of-rows.ensures.few),
    )

pub overflow_add-rows : goal.overflow_add-rows
overflow_add-rows g c = omega (arith, c.loop-shard.invariant.1, c.rows_of-rows.ensures.few, c.loop-shard-test.true, c.requires)
