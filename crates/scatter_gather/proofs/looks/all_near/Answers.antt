-- One source more was looked at.
use Rattle.std.proofs.Common.{◌∙◌, refl, sym, ap, arith, map}
use Rattle.std.proofs.lemmas.Bool.{and_from}
use Rattle.std.proofs.lemmas.List.Folds.{list_all_at, list_all_more}
use Rattle.scatter_gather.specs.Gathering.{Source, source_of}
use Rattle.scatter_gather.proofs.MergeLemmas.{read_seen}
use Rattle.scatter_gather.proofs.looks.all_near.Goals as goal

pub returns-then-not-near : goal.returns-then-not-near
returns-then-not-near g c =
    let as_seen = source_of g.H.HitSource.asked g.H.HitSource.standing in
    let at = read_seen as_seen c.args.sources.now c.args.sources.now c.loop-shard.shard c.index-sources-shard.result
    refl (omega (arith, c.loop-shard-test.true)) c.index-sources-shard.is in
    sym (list_all_at (λ (s : Source). s.asked.near) (map as_seen c.args.sources.now) c.loop-shard.shard
    (as_seen c.index-sources-shard.result) at.0 (ap (λ (s : Source). s.asked.near) at.1 ∙ sym c.near.ensures
    ∙ c.if-not-near.true))

pub loop-shard-preserved : goal.loop-shard-preserved
loop-shard-preserved g c =
    let as_seen = source_of g.H.HitSource.asked g.H.HitSource.standing in
    let at = read_seen as_seen c.args.sources.now c.args.sources.now c.loop-shard.shard c.index-sources-shard.result
    refl (omega (arith, c.loop-shard-test.true)) c.index-sources-shard.is in
    list_all_more (λ (s : Source). s.asked.near) (map as_seen c.args.sources.now) c.loop-shard.shard
    (as_seen c.index-sources-shard.result) at.0
    ∙ and_from _ _ c.loop-shard.invariant (ap (λ (s : Source). s.asked.near) at.1 ∙ sym c.near.ensures
    ∙ c.if-not-near.false)
