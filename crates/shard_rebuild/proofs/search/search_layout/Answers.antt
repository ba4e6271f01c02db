-- A layout that was searched while a front was open, once it is closed.
use Rattle.query_opening.proofs.CloseLemmas.{known_through}
use Rattle.shard_rebuild.proofs.FrontLemmas.{closed, closed_finds}
use Rattle.shard_rebuild.proofs.search.search_layout.Goals as goal

pub returns-in_err-found-clause-comes : goal.returns-in_err-found-clause-comes
returns-in_err-found-clause-comes g c = closed (g.D.Desk.desk c.args.desk.now) (g.D.Desk.desk c.open_front.new.self) (g.D.Desk.desk c.search_at-found.new.desk)
    (g.D.Desk.desk c.close_front.new.self) c.in-Ok.front c.in-Ok.ensures.opened c.search_at-found.ensures.comes c.close_front.ensures.closed

pub returns-in_err-found-clause-known : goal.returns-in_err-found-clause-known
returns-in_err-found-clause-known g c = known_through (g.D.Desk.desk c.args.desk.now) (g.D.Desk.desk c.open_front.new.self)
    (g.D.Desk.desk c.search_at-found.new.desk) (g.D.Desk.desk c.close_front.new.self) c.in-Ok.front c.in-Ok.ensures.opened c.search_at-found.ensures.comes
    c.close_front.ensures.closed (g.D.Desk.knows c.args.desk.now) (g.D.Desk.knows c.open_front.new.self) (g.D.Desk.knows c.search_at-found.new.desk)
    (g.D.Desk.knows c.close_front.new.self) c.in-Ok.ensures.known c.search_at-found.ensures.known c.close_front.ensures.known

pub returns-clause-found : goal.returns-clause-found
returns-clause-found g c = closed_finds (g.D.Desk.desk c.args.desk.now) (g.D.Desk.desk c.open_front.new.self)
    (g.D.Desk.desk c.search_at-found.new.desk) (g.D.Desk.desk c.close_front.new.self) c.in-Ok.front c.in-Ok.ensures.opened c.search_at-found.ensures.comes
    c.close_front.ensures.closed c.args.shard c.args.rounds c.position-position.result c.args.samples.now c.in_ok-found.field-0
    c.position-position.ensures.position c.in_ok-found.ensures.finds c.search_at-found.ensures.last

pub returns-clause-comes : goal.returns-clause-comes
returns-clause-comes g c = closed (g.D.Desk.desk c.args.desk.now) (g.D.Desk.desk c.open_front.new.self) (g.D.Desk.desk c.search_at-found.new.desk)
    (g.D.Desk.desk c.close_front.new.self) c.in-Ok.front c.in-Ok.ensures.opened c.search_at-found.ensures.comes c.close_front.ensures.closed

pub returns-clause-known : goal.returns-clause-known
returns-clause-known g c = known_through (g.D.Desk.desk c.args.desk.now) (g.D.Desk.desk c.open_front.new.self)
    (g.D.Desk.desk c.search_at-found.new.desk) (g.D.Desk.desk c.close_front.new.self) c.in-Ok.front c.in-Ok.ensures.opened c.search_at-found.ensures.comes
    c.close_front.ensures.closed (g.D.Desk.knows c.args.desk.now) (g.D.Desk.knows c.open_front.new.self) (g.D.Desk.knows c.search_at-found.new.desk)
    (g.D.Desk.knows c.close_front.new.self) c.in-Ok.ensures.known c.search_at-found.ensures.known c.close_front.ensures.known
