-- The call is a step of a session.
use Rattle.std.proofs.Common.{refl}
use Rattle.query_protocol.specs.Replies.{line_of}
use Rattle.open_session.specs.Moments.{moment_of}
use Rattle.open_session.proofs.Here.{here_of}
use Rattle.query_requests.proofs.AskLemmas.{cost_step}
use Rattle.open_queries.specs.Answers.{IsCost}
use Rattle.open_session.specs.Cursors.{asks, stands}
use Rattle.query_requests.proofs.FrameLemmas.{told_shards}
use Rattle.query_requests.proofs.asking.cost.Goals as goal

pub returns-clause-answers : goal.returns-clause-answers
returns-clause-answers g c = λ desk reads upkeep line asked history s stands.
    let ready = c.requires.ready.is_config in
    let held = g.K.Sink.held in
    let p = here_of c.args.config.now (moment_of desk c.args.session.now reads upkeep) (held c.args.sink.now) line
    history s stands in
    cost_step p (held c.say.new.sink) c.say.result _ ready refl refl refl refl refl c.args.tag.now
    (line_of c.cost-reply.result) asked c.cost-reply.ensures c.say.ensures.written

pub returns-clause-shards : goal.returns-clause-shards
returns-clause-shards g c =
    told_shards c.args.config.now.shards c.args.session.now.queries c.cost-reply.new.self c.requires.shards c.args.tag.now
    (IsCost (asks {W = g.row.W}) (stands {W = g.row.W}) c.args.tag.now) (line_of c.cost-reply.result) c.cost-reply.ensures
