use Rattle.std.proofs.Common.{◌≡◌, ◌∙◌, ap}
use Rattle.shard_version.specs.Tables.{Tabled}
use Rattle.versioned_shard.specs.Shards.{contents_at}
use Rattle.versioned_shard.proofs.WayLemmas.{none_more}
use Rattle.versioned_shard.proofs.shard.Shard.version_for.Goals as goal

pub loop-kept-preserved : goal.loop-kept-preserved
loop-kept-preserved g c =
    let there : c.at-in-loop-kept.result ≡ (contents_at c.kept-item.result).at =
    c.at-in-loop-kept.ensures.at ∙ ap (λ (one : Tabled). one.contents.at) c.deref-in-loop-kept.ensures in
    none_more c.deref-kept-items.result.now c.loop-kept.kept-index c.kept-item.result c.loop-kept-test.true c.kept-item.is c.position-position.result
    (λ same. c.if-at-position-2.false (there ∙ same)) c.loop-kept.invariant
