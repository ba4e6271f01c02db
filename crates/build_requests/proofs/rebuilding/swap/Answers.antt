-- The call is a step of a session.
use Rattle.std.proofs.Common.{[]}
use Rattle.query_protocol.specs.Replies.{line_of}
use Rattle.open_session.specs.Moments.{moment_of}
use Rattle.open_session.proofs.Here.{here_of}
use Rattle.build_requests.proofs.SwapInLemmas.{swap_step}
use Rattle.build_requests.proofs.RebuildFrames.{swaps_here, swaps_build}
use Rattle.build_requests.proofs.rebuilding.swap.Goals as goal

pub returns-clause-answers : goal.returns-clause-answers
returns-clause-answers g c = λ reads line asked history s stands.
    let held = g.K.Sink.held in
    let p = here_of c.args.config.now
    (moment_of (g.D.Desk.desk c.args.desk.now) c.args.session.now reads c.args.upkeep.now) (held c.args.sink.now) line
    history s stands in
    swap_step p (held c.say.new.sink) c.say.result _ (line_of c.swapped-reply.result) asked
    c.say.ensures.written (c.swapped-reply.ensures.swaps reads)

pub returns-clause-build : goal.returns-clause-build
returns-clause-build g c = swaps_build _ _ (line_of c.swapped-reply.result) (c.swapped-reply.ensures.swaps [])
    c.requires.build

pub returns-clause-config : goal.returns-clause-config
returns-clause-config g c = swaps_here _ _ (line_of c.swapped-reply.result) (c.swapped-reply.ensures.swaps [])
    c.args.config.now c.requires.config
