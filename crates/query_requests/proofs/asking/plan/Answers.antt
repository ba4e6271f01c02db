-- The call is a step of a session.
use Rattle.std.proofs.Common.{refl, subst}
use Rattle.open_queries.specs.Writing.{Writes}
use Rattle.open_session.specs.Moments.{moment_of}
use Rattle.open_session.proofs.Here.{here_of}
use Rattle.query_requests.proofs.AskLemmas.{plan_step}
use Rattle.open_queries.specs.Answers.{IsPlan}
use Rattle.open_session.specs.Cursors.{asks}
use Rattle.query_requests.proofs.FrameLemmas.{told_shards}
use Rattle.query_requests.proofs.asking.plan.Goals as goal

pub returns-clause-answers : goal.returns-clause-answers
returns-clause-answers g c = λ desk reads upkeep line asked history s stands.
    let ready = c.requires.ready.is_config in
    let held = g.K.Sink.held in
    let p = here_of c.args.config.now (moment_of desk c.args.session.now reads upkeep) (held c.args.sink.now) line
    history s stands in
    plan_step p (held c.send.new.sink) c.send.result _ ready refl refl refl refl refl c.args.tag.now
    c.args.shard c.plan.ensures.this asked c.plan.ensures.tells
    (subst (Writes (held c.args.sink.now) (held c.send.new.sink) c.send.result) c.plan.ensures.is_line
    c.send.ensures.written)

pub returns-clause-shards : goal.returns-clause-shards
returns-clause-shards g c =
    told_shards c.args.config.now.shards c.args.session.now.queries c.plan.new.self c.requires.shards c.args.tag.now
    (IsPlan (asks {W = g.row.W}) c.args.tag.now c.args.shard) c.plan.ensures.this c.plan.ensures.tells
