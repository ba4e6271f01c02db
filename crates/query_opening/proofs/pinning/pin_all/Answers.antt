-- What the desk was before the front was opened, while it was, and after.
use Rattle.query_opening.specs.Pinning.{contents_of_all}
use Rattle.query_opening.proofs.CloseLemmas.{at_behind, known_through, opened_closed, pinned_all, within_behind}
use Rattle.query_opening.proofs.pinning.pin_all.Goals as goal

pub returns-in_err-versions-clause-comes : goal.returns-in_err-versions-clause-comes
returns-in_err-versions-clause-comes g c = opened_closed (g.D.Desk.desk c.args.desk.now) (g.D.Desk.desk c.open_front.new.self)
    (g.D.Desk.desk c.pin_each-pinned.new.desk) (g.D.Desk.desk c.close_front.new.self)
    c.in-Ok.front c.in-Ok.ensures.opened c.pin_each-pinned.ensures.comes c.close_front.ensures.closed

pub returns-in_err-versions-clause-known : goal.returns-in_err-versions-clause-known
returns-in_err-versions-clause-known g c = known_through (g.D.Desk.desk c.args.desk.now) (g.D.Desk.desk c.open_front.new.self)
    (g.D.Desk.desk c.pin_each-pinned.new.desk) (g.D.Desk.desk c.close_front.new.self)
    c.in-Ok.front c.in-Ok.ensures.opened c.pin_each-pinned.ensures.comes c.close_front.ensures.closed
    (g.D.Desk.knows c.args.desk.now) (g.D.Desk.knows c.open_front.new.self) (g.D.Desk.knows c.pin_each-pinned.new.desk) (g.D.Desk.knows c.close_front.new.self)
    c.in-Ok.ensures.known c.pin_each-pinned.ensures.known c.close_front.ensures.known

pub returns-in_err-versions-clause-upkeep : goal.returns-in_err-versions-clause-upkeep
returns-in_err-versions-clause-upkeep g c = within_behind (g.D.Desk.desk c.args.desk.now) (g.D.Desk.desk c.open_front.new.self)
    (g.D.Desk.desk c.pin_each-pinned.new.desk) (g.D.Desk.desk c.close_front.new.self)
    c.in-Ok.front c.in-Ok.ensures.opened c.pin_each-pinned.ensures.comes c.close_front.ensures.closed
    c.args.steps.now c.pin_each-pinned.new.steps c.pin_each-pinned.ensures.upkeep

pub returns-clause-comes : goal.returns-clause-comes
returns-clause-comes g c = opened_closed (g.D.Desk.desk c.args.desk.now) (g.D.Desk.desk c.open_front.new.self) (g.D.Desk.desk c.pin_each-pinned.new.desk)
    (g.D.Desk.desk c.close_front.new.self)
    c.in-Ok.front c.in-Ok.ensures.opened c.pin_each-pinned.ensures.comes c.close_front.ensures.closed

pub returns-clause-known : goal.returns-clause-known
returns-clause-known g c = known_through (g.D.Desk.desk c.args.desk.now) (g.D.Desk.desk c.open_front.new.self) (g.D.Desk.desk c.pin_each-pinned.new.desk)
    (g.D.Desk.desk c.close_front.new.self)
    c.in-Ok.front c.in-Ok.ensures.opened c.pin_each-pinned.ensures.comes c.close_front.ensures.closed
    (g.D.Desk.knows c.args.desk.now) (g.D.Desk.knows c.open_front.new.self) (g.D.Desk.knows c.pin_each-pinned.new.desk) (g.D.Desk.knows c.close_front.new.self)
    c.in-Ok.ensures.known c.pin_each-pinned.ensures.known c.close_front.ensures.known

pub returns-clause-upkeep : goal.returns-clause-upkeep
returns-clause-upkeep g c = within_behind (g.D.Desk.desk c.args.desk.now) (g.D.Desk.desk c.open_front.new.self) (g.D.Desk.desk c.pin_each-pinned.new.desk)
    (g.D.Desk.desk c.close_front.new.self)
    c.in-Ok.front c.in-Ok.ensures.opened c.pin_each-pinned.ensures.comes c.close_front.ensures.closed
    c.args.steps.now c.pin_each-pinned.new.steps c.pin_each-pinned.ensures.upkeep

pub returns-clause-pinned : goal.returns-clause-pinned
returns-clause-pinned g c = pinned_all (g.D.Desk.desk c.args.desk.now) (g.D.Desk.desk c.open_front.new.self) (g.D.Desk.desk c.pin_each-pinned.new.desk)
    (g.D.Desk.desk c.close_front.new.self)
    c.in-Ok.front c.in-Ok.ensures.opened c.pin_each-pinned.ensures.comes c.close_front.ensures.closed
    (contents_of_all c.in_ok-versions.versions.items) c.position-position.result c.position-position.ensures.position c.in_ok-versions.ensures.pinned

pub returns-clause-spent : goal.returns-clause-spent
returns-clause-spent g c = at_behind (g.D.Desk.desk c.args.desk.now) (g.D.Desk.desk c.open_front.new.self) (g.D.Desk.desk c.pin_each-pinned.new.desk)
    (g.D.Desk.desk c.close_front.new.self)
    c.in-Ok.front c.in-Ok.ensures.opened c.pin_each-pinned.ensures.comes c.close_front.ensures.closed
    c.args.steps.now c.pin_each-pinned.new.steps c.position-position.result c.position-position.ensures.position c.pin_each-pinned.ensures.upkeep
