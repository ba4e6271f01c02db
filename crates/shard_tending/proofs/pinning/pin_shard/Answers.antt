-- A shard that was pinned while a front was open, once it is closed.
use Rattle.query_opening.proofs.CloseLemmas.{known_through}
use Rattle.versioned_shard.specs.Shards.{contents_at}
use Rattle.shard_rebuild.proofs.FrontLemmas.{closed, on_ok}
use Rattle.shard_tending.proofs.PinnedLemmas.{pins_shard}
use Rattle.shard_tending.proofs.pinning.pin_shard.Goals as goal

pub returns-clause-pinned : goal.returns-clause-pinned
returns-clause-pinned g c =
    on_ok c.pin_at-version.result
    (λ version is. pins_shard (g.D.Desk.desk c.args.desk.now) (g.D.Desk.desk c.open_front.new.self) (g.D.Desk.desk c.pin_at-version.new.desk)
    (g.D.Desk.desk c.close_front.new.self) c.in-Ok.front c.in-Ok.ensures.opened c.pin_at-version.ensures.comes c.close_front.ensures.closed
    c.args.shard (contents_at version) is)
    c.pin_at-version.ensures.pinned

pub returns-clause-comes : goal.returns-clause-comes
returns-clause-comes g c = closed (g.D.Desk.desk c.args.desk.now) (g.D.Desk.desk c.open_front.new.self) (g.D.Desk.desk c.pin_at-version.new.desk)
    (g.D.Desk.desk c.close_front.new.self) c.in-Ok.front c.in-Ok.ensures.opened c.pin_at-version.ensures.comes c.close_front.ensures.closed

pub returns-clause-known : goal.returns-clause-known
returns-clause-known g c = known_through (g.D.Desk.desk c.args.desk.now) (g.D.Desk.desk c.open_front.new.self) (g.D.Desk.desk c.pin_at-version.new.desk)
    (g.D.Desk.desk c.close_front.new.self) c.in-Ok.front c.in-Ok.ensures.opened c.pin_at-version.ensures.comes c.close_front.ensures.closed
    (g.D.Desk.knows c.args.desk.now) (g.D.Desk.knows c.open_front.new.self) (g.D.Desk.knows c.pin_at-version.new.desk) (g.D.Desk.knows c.close_front.new.self)
    c.in-Ok.ensures.known c.pin_at-version.ensures.known c.close_front.ensures.known
