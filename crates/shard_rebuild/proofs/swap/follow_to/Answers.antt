-- A build that follows, and its shard that is pinned.
use Rattle.std.proofs.Common.{ap, arith, length, rules}
use Rattle.versioned_shard.specs.Shards.{contents_at}
use Rattle.query_opening.proofs.PinLemmas.{none_came}
use Rattle.shard_rebuild.proofs.BuildLemmas.{goes_on_followed, goes_on_same}
use Rattle.shard_rebuild.proofs.FollowLemmas.{follow_comes, follow_goes_on, follow_meets, follow_others, front_codes, front_follows}
use Rattle.shard_rebuild.proofs.FrontLemmas.{came_nearer, nearer_goes_on, nearer_others}
use Rattle.shard_rebuild.proofs.swap.follow_to.Goals as goal

pub follow-requires : goal.follow-requires
follow-requires g c =
    let follows = front_follows (g.D.Desk.desk c.args.desk.now) c.args.front.now c.args.shard c.args.build.now c.requires.entries c.requires.of_shard in
    let codes = front_codes (g.D.Desk.desk c.args.desk.now) c.args.front.now c.args.shard c.args.build.now c.requires.entries c.requires.of_shard
    g.row.W c.shards-shards.ensures.desk in
    (omega arith, (omega arith, (c.requires.placed, (omega (arith, c.requires.of_shard.within, ap length c.requires.entries), (follows, codes)))))

pub returns-clause-meets : goal.returns-clause-meets
returns-clause-meets g c = follow_meets (g.D.Desk.desk c.args.desk.now) c.args.front.now c.args.shard c.args.build.now c.requires.entries c.requires.of_shard
    (g.D.Desk.desk c.pin.new.self) (contents_at c.in_ok-_version._version) c.in_ok-_version.ensures.pinned g.row.W c.shards-shards.ensures.desk
    c.follow.new.self c.in-Ok.ensures.followed

pub returns-clause-goes_on : goal.returns-clause-goes_on
returns-clause-goes_on g c = follow_goes_on (g.D.Desk.desk c.args.desk.now) c.args.front.now c.args.shard c.args.build.now c.requires.entries
    c.requires.of_shard (g.D.Desk.desk c.pin.new.self) (contents_at c.in_ok-_version._version) c.in_ok-_version.ensures.pinned g.row.W
    c.shards-shards.ensures.desk c.follow.new.self c.at-at.ensures.version c.in-Ok.ensures.followed

pub returns-clause-comes : goal.returns-clause-comes
returns-clause-comes g c = follow_comes (g.D.Desk.desk c.args.desk.now) c.args.front.now c.args.shard c.args.build.now c.requires.entries c.requires.of_shard
    (g.D.Desk.desk c.pin.new.self) (contents_at c.in_ok-_version._version) c.in_ok-_version.ensures.pinned g.row.W c.shards-shards.ensures.desk

pub returns-clause-others : goal.returns-clause-others
returns-clause-others g c = follow_others (g.D.Desk.desk c.args.desk.now) c.args.front.now c.args.shard c.args.build.now c.requires.entries
    c.requires.of_shard (g.D.Desk.desk c.pin.new.self) (contents_at c.in_ok-_version._version) c.in_ok-_version.ensures.pinned g.row.W
    c.shards-shards.ensures.desk

pub returns-in_err-_version-clause-goes_on : goal.returns-in_err-_version-clause-goes_on
returns-in_err-_version-clause-goes_on g c =
    nearer_goes_on (g.D.Desk.desk c.args.desk.now) (g.D.Desk.desk c.pin.new.self) c.args.shard c.args.build.now c.follow.new.self
    c.in_err-_version.ensures.comes
    (goes_on_followed (g.D.Desk.desk c.args.desk.now) c.args.shard c.args.front.now c.args.build.now c.follow.new.self c.requires.entries
    c.at-at.ensures.version c.requires.of_shard c.in-Ok.ensures.followed)

pub returns-in_err-_version-clause-comes : goal.returns-in_err-_version-clause-comes
returns-in_err-_version-clause-comes g c = came_nearer (g.D.Desk.desk c.args.desk.now) (g.D.Desk.desk c.pin.new.self) c.args.shard
    c.in_err-_version.ensures.comes

pub returns-in_err-_version-clause-others : goal.returns-in_err-_version-clause-others
returns-in_err-_version-clause-others g c = nearer_others (g.D.Desk.desk c.args.desk.now) (g.D.Desk.desk c.pin.new.self) c.args.shard
    c.in_err-_version.ensures.comes

pub returns-in_default-clause-comes : goal.returns-in_default-clause-comes
returns-in_default-clause-comes g c = none_came (g.D.Desk.desk c.args.desk.now)

pub returns-in_default-clause-goes_on : goal.returns-in_default-clause-goes_on
returns-in_default-clause-goes_on g c = goes_on_same (g.D.Desk.desk c.args.desk.now) c.args.shard c.args.build.now c.follow.new.self c.requires.of_shard
    c.requires.placed (search rules)
