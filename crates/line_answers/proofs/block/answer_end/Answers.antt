-- The end of the input ends no line, or one that is answered.
use Rattle.std.proofs.Common.{[]}
use Rattle.byte_lines.specs.Lines.{unended}
use Rattle.session_model.specs.Ledger.{ledgers}
use Rattle.line_answers.specs.Flow.{progress_of}
use Rattle.line_answers.proofs.BlockLemmas.{cut_end, no_end}
use Rattle.line_answers.proofs.block.answer_end.Goals as goal

pub returns-in-None-clause-flow : goal.returns-in-None-clause-flow
returns-in-None-clause-flow g c = λ start bytes output going.
    no_end (g.A.LineAnswers.answered c.args.answers.now)
    (progress_of (ledgers c.args.meters.now c.args.upkeep.now) c.args.cutter.now.held (g.K.Sink.held c.args.sink.now))
    start bytes output going (c.in-None.ensures.cut (unended [] bytes) going.begun)

pub returns-in-Some-clause-flow : goal.returns-in-Some-clause-flow
returns-in-Some-clause-flow g c = λ start bytes output going.
    let cutter = c.finish.new.self in
    let after = c.answer_cut.new in
    let old = progress_of (ledgers c.args.meters.now c.args.upkeep.now) c.args.cutter.now.held (g.K.Sink.held c.args.sink.now) in
    let new = progress_of (ledgers after.meters after.upkeep) cutter.held (g.K.Sink.held after.sink) in
    cut_end (g.A.LineAnswers.answered c.args.answers.now) (g.A.LineAnswers.answered after.answers) old new start bytes output going
    c.answer_cut.result c.in-Some.cut cutter.line (c.in-Some.ensures.cut (unended [] bytes) going.begun)
    (c.answer_cut.ensures.answers c.args.cutter.now.held cutter.held)
