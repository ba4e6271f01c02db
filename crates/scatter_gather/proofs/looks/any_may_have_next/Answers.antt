-- One source more was asked.
use Rattle.std.proofs.Common.{◌∙◌, refl, sym, ap, arith, map, false, ◌≡◌}
use Rattle.std.specs.List.{list_any}
use Rattle.std.proofs.lemmas.Bool.{or_from}
use Rattle.std.proofs.lemmas.List.{length-map, take_all}
use Rattle.std.proofs.lemmas.List.Folds.{list_any_at, list_any_more}
use Rattle.scatter_gather.specs.Gathering.{source_of}
use Rattle.scatter_gather.specs.Due.{may_have_next}
use Rattle.scatter_gather.proofs.MergeLemmas.{read_seen}
use Rattle.scatter_gather.proofs.looks.any_may_have_next.Goals as goal

pub returns-then-may_have_next : goal.returns-then-may_have_next
returns-then-may_have_next g c =
    let as_seen = source_of g.H.HitSource.asked g.H.HitSource.standing in
    let at = read_seen as_seen c.args.sources.now c.args.sources.now c.loop-shard.shard c.index-sources-shard.result
    refl (omega (arith, c.loop-shard-test.true)) c.index-sources-shard.is in
    let least = c.least_floor-least.ensures in
    rw (← least)
    (sym (list_any_at (may_have_next c.least_floor-least.result) (map as_seen c.args.sources.now) c.loop-shard.shard
    (as_seen c.index-sources-shard.result) at.0
    (ap (may_have_next c.least_floor-least.result) at.1 ∙ sym c.may_have_next.ensures ∙ c.if-may_have_next.true)))

pub loop-shard-preserved : goal.loop-shard-preserved
loop-shard-preserved g c =
    let as_seen = source_of g.H.HitSource.asked g.H.HitSource.standing in
    let at = read_seen as_seen c.args.sources.now c.args.sources.now c.loop-shard.shard c.index-sources-shard.result
    refl (omega (arith, c.loop-shard-test.true)) c.index-sources-shard.is in
    list_any_more (may_have_next c.least_floor-least.result) (map as_seen c.args.sources.now) c.loop-shard.shard
    (as_seen c.index-sources-shard.result) at.0
    ∙ or_from _ _ c.loop-shard.invariant (ap (may_have_next c.least_floor-least.result) at.1
    ∙ sym c.may_have_next.ensures ∙ c.if-may_have_next.false)

pub returns : goal.returns
returns g c =
    let least = c.least_floor-least.ensures in
    let all = take_all c.loop-shard.shard (map (source_of g.H.HitSource.asked g.H.HitSource.standing) c.args.sources.now)
    (omega (arith, c.loop-shard-test.false, length-map c.args.sources.now (source_of g.H.HitSource.asked g.H.HitSource.standing))) in
    let e : list_any (may_have_next c.least_floor-least.result) (map (source_of g.H.HitSource.asked g.H.HitSource.standing) c.args.sources.now) ≡ false =
    ap (list_any (may_have_next c.least_floor-least.result)) (sym all) ∙ c.loop-shard.invariant in
    rw (← least) (sym e)
