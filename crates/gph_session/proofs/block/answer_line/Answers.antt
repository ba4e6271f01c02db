-- A piece of a block ends no line, or one that the session answers.
use Rattle.std.proofs.Common.{◌≡◌, [], take, subst, sym}
use Rattle.byte_lines.specs.Cut.{CutterState, TellsOf, held_of}
use Rattle.byte_lines.specs.Lines.{ended_lines, unended}
use Rattle.gph_session.proofs.BlockLemmas.{cut_flow, uncut_flow}
use Rattle.gph_session.proofs.block.answer_line.Goals as goal

pub returns-in-None-clause-flow : goal.returns-in-None-clause-flow
returns-in-None-clause-flow g c = λ start before output going.
    let piece = take c.push-taken.result.0 c.args.bytes.now in
    let begun = unended [] before in
    let cutter = c.push-taken.new.self in
    let held = g.K.Sink.held c.args.sink.now in
    let tells = subst (λ cut. TellsOf cut cutter.line (ended_lines begun piece)) c.in-None.is
    (c.push-taken.ensures.cut begun going.begun_is) in
    uncut_flow c.args.config.now start _ before output c.args.session.now.cutter.held going held held
    cutter.held held piece tells (c.push-taken.ensures.held begun going.begun_is)

pub returns-in-Some-clause-flow : goal.returns-in-Some-clause-flow
returns-in-Some-clause-flow g c = λ start before output going.
    let piece = take c.push-taken.result.0 c.args.bytes.now in
    let begun = unended [] before in
    let cutter = c.push-taken.new.self in
    let tells = subst (λ cut. TellsOf cut cutter.line (ended_lines begun piece)) c.in-Some.is
    (c.push-taken.ensures.cut begun going.begun_is) in
    let kept_is = subst (λ (state : CutterState). state.held ≡ held_of (unended begun piece))
    (sym c.answer.ensures.cutter) (c.push-taken.ensures.held begun going.begun_is) in
    cut_flow c.args.config.now start _ before output c.args.session.now.cutter.held going
    (g.K.Sink.held c.args.sink.now) (g.K.Sink.held c.answer.new.sink) _ c.answer.new.session.cutter.held
    c.answer.result c.in-Some.cut cutter.line piece tells kept_is c.answer.ensures.answers
