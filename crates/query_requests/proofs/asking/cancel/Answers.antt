-- The call is a step of a session.
use Rattle.std.proofs.Common.{refl}
use Rattle.query_protocol.specs.Replies.{line_of}
use Rattle.open_session.specs.Moments.{moment_of}
use Rattle.open_session.proofs.Here.{here_of}
use Rattle.query_requests.proofs.AskLemmas.{cancel_step}
use Rattle.query_requests.proofs.FrameLemmas.{cancelled_shards}
use Rattle.query_requests.proofs.asking.cancel.Goals as goal

pub returns-clause-answers : goal.returns-clause-answers
returns-clause-answers g c = λ desk reads upkeep line asked history s stands.
    let ready = c.requires.ready.is_config in
    let held = g.K.Sink.held in
    let p = here_of c.args.config.now (moment_of desk c.args.session.now reads upkeep) (held c.args.sink.now) line
    history s stands in
    cancel_step p (held c.say.new.sink) c.say.result _ ready refl refl refl refl refl c.args.tag.now
    (line_of c.cancel-reply.result) asked c.cancel-reply.ensures c.say.ensures.written

pub returns-clause-shards : goal.returns-clause-shards
returns-clause-shards g c =
    cancelled_shards c.args.config.now.shards c.args.session.now.queries c.cancel-reply.new.self c.requires.shards
    c.args.tag.now (line_of c.cancel-reply.result) c.cancel-reply.ensures
