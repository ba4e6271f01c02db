-- A build of the version that is pinned.
use Rattle.std.proofs.Common.{arith}
use Rattle.versioned_shard.specs.Shards.{contents_at}
use Rattle.shard_rebuild.proofs.FrontLemmas.{came_nearer, came_pinned, nearer_others, pinned_others, pinned_shard}
use Rattle.shard_rebuild.proofs.start.build_at.Goals as goal

pub returns-in_err-version-clause-comes : goal.returns-in_err-version-clause-comes
returns-in_err-version-clause-comes g c =
    came_nearer (g.D.Desk.desk c.args.desk.now) (g.D.Desk.desk c.pin.new.self) c.args.shard c.in_err-version.ensures.comes

pub returns-in_err-version-clause-others : goal.returns-in_err-version-clause-others
returns-in_err-version-clause-others g c =
    nearer_others (g.D.Desk.desk c.args.desk.now) (g.D.Desk.desk c.pin.new.self) c.args.shard c.in_err-version.ensures.comes

pub returns-clause-begins : goal.returns-clause-begins
returns-clause-begins g c = record {
  version = contents_at c.in_ok-version.version;
  pinned = pinned_shard (g.D.Desk.desk c.args.desk.now) (g.D.Desk.desk c.pin.new.self) c.args.front.now c.args.shard (contents_at c.in_ok-version.version)
      c.in_ok-version.ensures.pinned c.requires.whole (omega (arith, c.requires.shard, c.shards-shards.ensures.desk.pins));
  begins = c.in_ok-build.ensures.build;
  sound = c.at-at.ensures.version;
}

pub returns-clause-comes : goal.returns-clause-comes
returns-clause-comes g c =
    came_pinned (g.D.Desk.desk c.args.desk.now) (g.D.Desk.desk c.pin.new.self) c.args.front.now c.args.shard (contents_at c.in_ok-version.version)
    c.in_ok-version.ensures.pinned c.requires.whole (omega (arith, c.requires.shard, c.shards-shards.ensures.desk.pins))

pub returns-clause-others : goal.returns-clause-others
returns-clause-others g c =
    pinned_others (g.D.Desk.desk c.args.desk.now) (g.D.Desk.desk c.pin.new.self) c.args.front.now c.args.shard (contents_at c.in_ok-version.version)
    c.in_ok-version.ensures.pinned c.requires.whole (omega (arith, c.requires.shard, c.shards-shards.ensures.desk.pins))
