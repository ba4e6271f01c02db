-- The call is a step of a session.
use Rattle.std.proofs.Common.{[]}
use Rattle.query_protocol.specs.Replies.{line_of}
use Rattle.open_session.specs.Moments.{moment_of}
use Rattle.open_session.proofs.Here.{here_of}
use Rattle.build_requests.proofs.StartLemmas.{place_step}
use Rattle.build_requests.proofs.RebuildFrames.{places_build}
use Rattle.build_requests.proofs.rebuilding.place.Goals as goal

pub returns-clause-answers : goal.returns-clause-answers
returns-clause-answers g c = λ desk reads line asked history s stands.
    let held = g.K.Sink.held in
    let p = here_of c.args.config.now (moment_of desk c.args.session.now reads c.args.upkeep.now) (held c.args.sink.now)
    line history s stands in
    place_step p (held c.say.new.sink) c.say.result _ c.args.rows_most (line_of c.placed-reply.result) asked
    c.say.ensures.written (c.placed-reply.ensures.places desk reads)

pub returns-clause-build : goal.returns-clause-build
returns-clause-build g c = λ desk has.
    places_build _ _ c.args.rows_most (line_of c.placed-reply.result) (c.placed-reply.ensures.places desk []) has
