-- The call is a step of a session.
use Rattle.std.proofs.Common.{◌<◌, [], sym, subst}
use Rattle.part_layout.specs.declared.config.Config.{Config}
use Rattle.query_protocol.specs.Replies.{line_of}
use Rattle.open_session.specs.Moments.{moment_of}
use Rattle.open_session.proofs.Here.{here_of}
use Rattle.build_requests.proofs.StartLemmas.{start_step}
use Rattle.build_requests.proofs.RebuildFrames.{starts_here, starts_build}
use Rattle.build_requests.proofs.rebuilding.start.Goals as goal

pub returns-clause-answers : goal.returns-clause-answers
returns-clause-answers g c = λ reads line asked history s stands.
    let held = g.K.Sink.held in
    let p = here_of c.args.config.now
    (moment_of (g.D.Desk.desk c.args.desk.now) c.args.session.now reads c.args.upkeep.now) (held c.args.sink.now) line
    history s stands in
    start_step p (held c.say.new.sink) c.say.result _ c.args.shard c.args.layout (line_of c.started-reply.result) asked
    c.requires.shard c.say.ensures.written (c.started-reply.ensures.starts reads)

pub returns-clause-build : goal.returns-clause-build
returns-clause-build g c = starts_build _ _ c.args.shard c.args.layout (line_of c.started-reply.result)
    (c.started-reply.ensures.starts []) (subst (λ (config : Config). c.args.shard < config.shards) (sym c.requires.config) c.requires.shard)
    c.requires.build

pub returns-clause-config : goal.returns-clause-config
returns-clause-config g c = starts_here _ _ c.args.shard c.args.layout (line_of c.started-reply.result)
    (c.started-reply.ensures.starts []) c.args.config.now c.requires.config
