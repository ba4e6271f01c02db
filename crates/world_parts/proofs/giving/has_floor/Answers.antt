-- One source more was looked at.
use Rattle.std.proofs.Common.{◌<◌, length, sym, ap, ◌∙◌, arith}
use Rattle.std.specs.Prelude.{is_some}
use Rattle.std.proofs.lemmas.Bool.{or_from}
use Rattle.std.proofs.lemmas.List.Folds.{list_any_at, list_any_more}
use Rattle.scatter_gather.proofs.TodoLemmas.{some_of}
use Rattle.world_parts.proofs.giving.has_floor.Goals as goal

pub returns-then-is_some : goal.returns-then-is_some
returns-then-is_some g c =
    let below : c.loop-shard.shard < length c.args.gather.now.sources = omega (arith, c.loop-shard-test.true, c.requires) in
    let one = some_of c.args.gather.now.sources c.loop-shard.shard below in
    sym (list_any_at (λ source. is_some (g.H.HitSource.standing source).floor) c.args.gather.now.sources c.loop-shard.shard one below
    (ap is_some (sym (c.floor.ensures one)) ∙ sym c.is_some.ensures ∙ c.if-is_some.true))

pub loop-shard-preserved : goal.loop-shard-preserved
loop-shard-preserved g c =
    let below : c.loop-shard.shard < length c.args.gather.now.sources = omega (arith, c.loop-shard-test.true, c.requires) in
    let one = some_of c.args.gather.now.sources c.loop-shard.shard below in
    list_any_more (λ source. is_some (g.H.HitSource.standing source).floor) c.args.gather.now.sources c.loop-shard.shard one below
    ∙ or_from _ _ c.loop-shard.invariant (ap is_some (sym (c.floor.ensures one)) ∙ sym c.is_some.ensures ∙ c.if-is_some.false)
