-- A build that was begun while a front was open, once it is closed.
use Rattle.std.specs.Arc.{arc_value}
use Rattle.query_opening.proofs.CloseLemmas.{known_through}
use Rattle.shard_rebuild.proofs.FrontLemmas.{begun_steps, closed, closed_begins, closed_build, closed_others, on_both, on_ok, within_steps}
use Rattle.shard_rebuild.proofs.start.start_build.Goals as goal

pub returns-clause-started : goal.returns-clause-started
returns-clause-started g c =
    on_ok c.build_at-build.result
    (λ build begins. closed_begins (g.D.Desk.desk c.args.desk.now) (g.D.Desk.desk c.open_front.new.self) (g.D.Desk.desk c.build_at-build.new.desk)
    (g.D.Desk.desk c.close_front.new.self) c.in-Ok.front c.in-Ok.ensures.opened c.build_at-build.ensures.comes c.close_front.ensures.closed
    c.args.shard (arc_value c.args.layout) build begins c.requires.bits c.build_at-build.ensures.last)
    c.build_at-build.ensures.begins

pub returns-clause-build : goal.returns-clause-build
returns-clause-build g c =
    on_ok c.build_at-build.result
    (λ build begins. closed_build (g.D.Desk.desk c.args.desk.now) (g.D.Desk.desk c.open_front.new.self) (g.D.Desk.desk c.build_at-build.new.desk)
    (g.D.Desk.desk c.close_front.new.self) c.in-Ok.front c.in-Ok.ensures.opened c.build_at-build.ensures.comes c.close_front.ensures.closed
    c.args.shard (arc_value c.args.layout) build begins c.requires.bits)
    c.build_at-build.ensures.begins

pub returns-clause-comes : goal.returns-clause-comes
returns-clause-comes g c = closed (g.D.Desk.desk c.args.desk.now) (g.D.Desk.desk c.open_front.new.self) (g.D.Desk.desk c.build_at-build.new.desk)
    (g.D.Desk.desk c.close_front.new.self) c.in-Ok.front c.in-Ok.ensures.opened c.build_at-build.ensures.comes c.close_front.ensures.closed

pub returns-clause-others : goal.returns-clause-others
returns-clause-others g c = closed_others (g.D.Desk.desk c.args.desk.now) (g.D.Desk.desk c.open_front.new.self) (g.D.Desk.desk c.build_at-build.new.desk)
    (g.D.Desk.desk c.close_front.new.self) c.in-Ok.front c.in-Ok.ensures.opened c.build_at-build.ensures.comes c.close_front.ensures.closed
    c.args.shard c.build_at-build.ensures.others

pub returns-clause-known : goal.returns-clause-known
returns-clause-known g c = known_through (g.D.Desk.desk c.args.desk.now) (g.D.Desk.desk c.open_front.new.self) (g.D.Desk.desk c.build_at-build.new.desk)
    (g.D.Desk.desk c.close_front.new.self) c.in-Ok.front c.in-Ok.ensures.opened c.build_at-build.ensures.comes c.close_front.ensures.closed
    (g.D.Desk.knows c.args.desk.now) (g.D.Desk.knows c.open_front.new.self) (g.D.Desk.knows c.build_at-build.new.desk) (g.D.Desk.knows c.close_front.new.self)
    c.in-Ok.ensures.known c.build_at-build.ensures.known c.close_front.ensures.known

pub returns-clause-upkeep : goal.returns-clause-upkeep
returns-clause-upkeep g c =
    on_both c.build_at-build.result
    (λ build begins bound. begun_steps (g.D.Desk.desk c.args.desk.now) (g.D.Desk.desk c.open_front.new.self) (g.D.Desk.desk c.build_at-build.new.desk)
    (g.D.Desk.desk c.close_front.new.self) c.in-Ok.front c.in-Ok.ensures.opened c.build_at-build.ensures.comes c.close_front.ensures.closed
    c.args.shard (arc_value c.args.layout) build begins c.requires.bits c.args.steps.now c.build_at-build.new.steps bound)
    c.build_at-build.ensures.begins c.build_at-build.ensures.upkeep

pub returns-clause-bound : goal.returns-clause-bound
returns-clause-bound g c = within_steps (g.D.Desk.desk c.args.desk.now) (g.D.Desk.desk c.open_front.new.self) (g.D.Desk.desk c.build_at-build.new.desk)
    (g.D.Desk.desk c.close_front.new.self) c.in-Ok.front c.in-Ok.ensures.opened c.build_at-build.ensures.comes c.close_front.ensures.closed
    c.args.shard c.args.steps.now c.build_at-build.new.steps c.build_at-build.ensures.bound
