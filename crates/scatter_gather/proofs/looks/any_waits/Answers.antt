-- One source more was looked at.
use Rattle.std.proofs.Common.{◌∙◌, refl, sym, ap, arith, map}
use Rattle.std.specs.Prelude.{is_some}
use Rattle.std.proofs.lemmas.Bool.{or_from}
use Rattle.std.proofs.lemmas.List.Folds.{list_any_at, list_any_more}
use Rattle.scatter_gather.specs.Gathering.{source_of}
use Rattle.scatter_gather.specs.Due.{has_head}
use Rattle.scatter_gather.proofs.MergeLemmas.{read_seen}
use Rattle.scatter_gather.proofs.looks.any_waits.Goals as goal

pub returns-then-is_some : goal.returns-then-is_some
returns-then-is_some g c =
    let as_seen = source_of g.H.HitSource.asked g.H.HitSource.standing in
    let at = read_seen as_seen c.args.sources.now c.args.sources.now c.loop-shard.shard c.index-sources-shard.result
    refl (omega (arith, c.loop-shard-test.true)) c.index-sources-shard.is in
    sym (list_any_at has_head (map as_seen c.args.sources.now) c.loop-shard.shard
    (as_seen c.index-sources-shard.result) at.0 (ap has_head at.1 ∙ ap is_some (sym c.head.ensures.head)
    ∙ sym c.is_some.ensures ∙ c.if-is_some.true))

pub loop-shard-preserved : goal.loop-shard-preserved
loop-shard-preserved g c =
    let as_seen = source_of g.H.HitSource.asked g.H.HitSource.standing in
    let at = read_seen as_seen c.args.sources.now c.args.sources.now c.loop-shard.shard c.index-sources-shard.result
    refl (omega (arith, c.loop-shard-test.true)) c.index-sources-shard.is in
    list_any_more has_head (map as_seen c.args.sources.now) c.loop-shard.shard (as_seen c.index-sources-shard.result)
    at.0
    ∙ or_from _ _ c.loop-shard.invariant (ap has_head at.1 ∙ ap is_some (sym c.head.ensures.head)
    ∙ sym c.is_some.ensures ∙ c.if-is_some.false)
