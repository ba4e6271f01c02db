-- The call is a step of a session.
use Rattle.std.proofs.Common.{refl, subst}
use Rattle.open_queries.specs.Writing.{Writes}
use Rattle.open_session.specs.Moments.{moment_of}
use Rattle.open_session.proofs.Here.{here_of}
use Rattle.desk_requests.proofs.LookLemmas.{layout_step}
use Rattle.open_session.proofs.DeskLemmas.{here_tells, builds_told}
use Rattle.desk_requests.proofs.layouts.layout.Goals as goal

pub returns-clause-answers : goal.returns-clause-answers
returns-clause-answers g c = λ reads upkeep line asked history s stands.
    let held = g.K.Sink.held in
    let p = here_of c.args.config.now (moment_of (g.D.Desk.desk c.args.desk.now) c.args.session.now reads upkeep)
    (held c.args.sink.now) line history s stands in
    layout_step p (held c.send.new.sink) c.send.result _ refl refl refl refl c.args.shard c.requires.shard c.layout_of-text.result asked
    c.layout_of-text.ensures.layout refl
    (subst (Writes (held c.args.sink.now) (held c.send.new.sink) c.send.result) c.write_layout.ensures
    c.send.ensures.written)

pub returns-clause-config : goal.returns-clause-config
returns-clause-config g c = here_tells c.args.config.now (g.D.Desk.desk c.args.desk.now)
    (g.D.Desk.desk c.layout_of-text.new.self) c.args.shard c.layout_of-text.result c.layout_of-text.ensures.layout
    c.requires.config

pub returns-clause-builds : goal.returns-clause-builds
returns-clause-builds g c = builds_told (g.D.Desk.desk c.args.desk.now) (g.D.Desk.desk c.layout_of-text.new.self)
    c.args.shard c.layout_of-text.result c.layout_of-text.ensures.layout
