-- A search from the version that is pinned on.
use Rattle.std.proofs.Common.{subst, arith}
use Rattle.shard_version.specs.Tables.{Tabled}
use Rattle.layout_search.specs.Improves.{FindsImproved}
use Rattle.versioned_shard.specs.Shards.{contents_at}
use Rattle.shard_rebuild.proofs.FrontLemmas.{came_pinned, on_both, pinned_shard}
use Rattle.shard_rebuild.proofs.search.search_at.Goals as goal

pub returns-clause-finds : goal.returns-clause-finds
returns-clause-finds g c =
    on_both c.improve.result
    (λ found ends laid. record {
      version = contents_at c.in_ok-version.version;
      pinned = pinned_shard (g.D.Desk.desk c.args.desk.now) (g.D.Desk.desk c.pin.new.self) c.args.front.now c.args.shard
          (contents_at c.in_ok-version.version) c.in_ok-version.ensures.pinned c.requires.whole
          (omega (arith, c.requires.shard, c.shards-shards.ensures.desk.pins));
      ends = subst (λ (version : Tabled). FindsImproved version.contents c.args.samples.now c.args.rounds found) c.deref.ensures ends;
      laid = laid;
    })
    c.improve.ensures.found c.improve.ensures.laid

pub returns-clause-comes : goal.returns-clause-comes
returns-clause-comes g c =
    came_pinned (g.D.Desk.desk c.args.desk.now) (g.D.Desk.desk c.pin.new.self) c.args.front.now c.args.shard (contents_at c.in_ok-version.version)
    c.in_ok-version.ensures.pinned c.requires.whole (omega (arith, c.requires.shard, c.shards-shards.ensures.desk.pins))
