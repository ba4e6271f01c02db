-- The rows of one source more.
use Rattle.std.proofs.Common.{◌∙◌, refl, sym, ap, arith, map}
use Rattle.std.proofs.lemmas.List.Sums.{sum_by_more}
use Rattle.scatter_gather.specs.Gathering.{Source, source_of}
use Rattle.scatter_gather.proofs.MergeLemmas.{read_seen}
use Rattle.scatter_gather.proofs.MoreLemmas.{rows_step}
use Rattle.scatter_gather.proofs.looks.rows_of.Goals as goal

pub loop-shard-preserved : goal.loop-shard-preserved
loop-shard-preserved g c =
    let as_seen = source_of g.H.HitSource.asked g.H.HitSource.standing in
    let at = read_seen as_seen c.args.sources.now c.args.sources.now c.loop-shard.shard c.index-sources-shard.result
    refl (omega (arith, c.loop-shard-test.true)) c.index-sources-shard.is in
    let more = sum_by_more (λ (s : Source). s.asked.rows) (map as_seen c.args.sources.now) c.loop-shard.shard
    (as_seen c.index-sources-shard.result) at.0 in
    let here = ap (λ (s : Source). s.asked.rows) at.1 in
    rows_step 18446744073709551615 c.loop-shard.rows _ _ _ _ _ c.loop-shard.invariant more (here
    ∙ sym c.rows.ensures) c.saturating_add-rows.ensures
