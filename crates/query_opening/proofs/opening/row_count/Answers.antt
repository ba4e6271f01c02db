-- The rows of one version more.
use Rattle.std.proofs.Common.{length, ap, arith}
use Rattle.shard_version.specs.Tables.{Tabled}
use Rattle.query_opening.proofs.OpenLemmas.{rows_more}
use Rattle.query_opening.proofs.opening.row_count.Goals as goal

pub loop-shard-preserved : goal.loop-shard-preserved
loop-shard-preserved g c =
    let more = rows_more c.args.versions.now c.loop-shard.shard c.index-versions-shard.result c.loop-shard-test.true c.index-versions-shard.is in
    let found = ap (λ (version : Tabled). length version.contents.rows) c.deref.ensures in (
      omega (arith, c.loop-shard.invariant.0, more, c.rows-rows.ensures.number, found),
      omega (arith, c.loop-shard.invariant.1, c.rows-rows.ensures.number, c.rows-rows.ensures.version.few_rows),
    )
