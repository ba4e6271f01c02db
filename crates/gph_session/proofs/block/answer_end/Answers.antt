-- The end of the input ends no line, or one that the session answers.
use Rattle.std.proofs.Common.{[]}
use Rattle.byte_lines.specs.Lines.{unended}
use Rattle.gph_session.proofs.BlockLemmas.{cut_end, no_end}
use Rattle.gph_session.proofs.block.answer_end.Goals as goal

pub returns-in-None-clause-flow : goal.returns-in-None-clause-flow
returns-in-None-clause-flow g c = λ start bytes output going.
    let held = g.K.Sink.held c.args.sink.now in
    no_end c.args.config.now start _ bytes output c.args.session.now.cutter.held going held held held
    (c.in-None.ensures.cut (unended [] bytes) going.begun_is)

pub returns-in-Some-clause-flow : goal.returns-in-Some-clause-flow
returns-in-Some-clause-flow g c = λ start bytes output going.
    cut_end c.args.config.now start _ bytes output c.args.session.now.cutter.held going
    (g.K.Sink.held c.args.sink.now) (g.K.Sink.held c.answer.new.sink) _ c.answer.new.session.cutter.held
    c.answer.result c.in-Some.cut c.finish.new.self.line
    (c.in-Some.ensures.cut (unended [] bytes) going.begun_is) c.answer.ensures.answers
