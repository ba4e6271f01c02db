-- A piece of a block ends no line, or one that is answered.
use Rattle.std.proofs.Common.{[], take, refl, subst}
use Rattle.byte_lines.specs.Cut.{TellsOf}
use Rattle.byte_lines.specs.Lines.{ended_lines, unended}
use Rattle.session_model.specs.Ledger.{ledgers}
use Rattle.line_answers.specs.Flow.{progress_of}
use Rattle.line_answers.proofs.BlockLemmas.{cut_flow, uncut_flow}
use Rattle.line_answers.proofs.block.answer_piece.Goals as goal

pub returns-in-None-clause-flow : goal.returns-in-None-clause-flow
returns-in-None-clause-flow g c = λ start before output going.
    let piece = take c.push-taken.result.0 c.args.bytes.now in
    let begun = unended [] before in
    let cutter = c.push-taken.new.self in
    let counted = ledgers c.args.meters.now c.args.upkeep.now in
    let held = g.K.Sink.held c.args.sink.now in
    let tells = subst (λ cut. TellsOf cut cutter.line (ended_lines begun piece)) c.in-None.is
    (c.push-taken.ensures.cut begun going.begun) in
    uncut_flow (g.A.LineAnswers.answered c.args.answers.now) (progress_of counted c.args.cutter.now.held held) start before output going
    (progress_of counted cutter.held held) piece tells (c.push-taken.ensures.held begun going.begun) refl refl

pub returns-in-Some-clause-flow : goal.returns-in-Some-clause-flow
returns-in-Some-clause-flow g c = λ start before output going.
    let piece = take c.push-taken.result.0 c.args.bytes.now in
    let begun = unended [] before in
    let cutter = c.push-taken.new.self in
    let after = c.answer_cut.new in
    let old = progress_of (ledgers c.args.meters.now c.args.upkeep.now) c.args.cutter.now.held (g.K.Sink.held c.args.sink.now) in
    let new = progress_of (ledgers after.meters after.upkeep) cutter.held (g.K.Sink.held after.sink) in
    let tells = subst (λ cut. TellsOf cut cutter.line (ended_lines begun piece)) c.in-Some.is
    (c.push-taken.ensures.cut begun going.begun) in
    cut_flow (g.A.LineAnswers.answered c.args.answers.now) (g.A.LineAnswers.answered after.answers) old new start before output going
    c.answer_cut.result c.in-Some.cut cutter.line piece tells (c.push-taken.ensures.held begun going.begun)
    (c.answer_cut.ensures.answers c.args.cutter.now.held cutter.held)
