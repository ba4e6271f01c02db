-- The call is a step of a session.
use Rattle.std.proofs.Common.{take, []}
use Rattle.query_protocol.specs.Replies.{line_of}
use Rattle.open_session.specs.Moments.{moment_of}
use Rattle.open_session.proofs.Here.{here_of}
use Rattle.query_requests.proofs.OpenedLemmas.{open_step}
use Rattle.open_session.specs.Questions.{ask_of}
use Rattle.query_requests.proofs.FrameLemmas.{here_opens, opened_shards, builds_open}
use Rattle.query_requests.proofs.opening.begin_query.Goals as goal

pub returns-clause-answers : goal.returns-clause-answers
returns-clause-answers g c = λ reads line asked history s stands.
    let held = g.K.Sink.held in
    let ready = c.requires.ready.is_config in
    let p = here_of c.args.config.now
    (moment_of (g.D.Desk.desk c.args.desk.now) c.args.session.now reads c.args.upkeep.now) (held c.args.sink.now) line
    history s stands in
    open_step p (held c.say.new.sink) c.say.result _ ready c.args.tag
    (ask_of c.args.question (take c.args.config.now.bits c.args.code)) c.requires.within c.args.config.now.room
    (line_of c.opened-reply.result) asked c.say.ensures.written (c.opened-reply.ensures.opens reads)

pub returns-clause-shards : goal.returns-clause-shards
returns-clause-shards g c =
    opened_shards c.args.config.now _ _ c.args.tag
    (ask_of c.args.question (take c.args.config.now.bits c.args.code)) c.args.config.now.room
    (line_of c.opened-reply.result) c.requires.config c.requires.shards (c.opened-reply.ensures.opens [])

pub returns-clause-config : goal.returns-clause-config
returns-clause-config g c = here_opens c.args.config.now _ _ c.args.tag
    (ask_of c.args.question (take c.args.config.now.bits c.args.code)) c.args.config.now.room
    (line_of c.opened-reply.result) (c.opened-reply.ensures.opens []) c.requires.config

pub returns-clause-builds : goal.returns-clause-builds
returns-clause-builds g c = builds_open _ _ c.args.tag
    (ask_of c.args.question (take c.args.config.now.bits c.args.code)) c.args.config.now.room
    (line_of c.opened-reply.result) (c.opened-reply.ensures.opens [])
