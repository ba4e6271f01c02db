-- The lines of a block, one after the other.
use Rattle.std.proofs.Common.{◌-◌, length, drop, refl, arith, rules}
use Rattle.std.proofs.lemmas.List.{length-drop, length-take}
use Rattle.session_model.specs.Ledger.{ledgers}
use Rattle.line_answers.specs.Flow.{progress_of}
use Rattle.line_answers.proofs.BlockLemmas.{all_goes, goes_then, broken_then, still_goes}
use Rattle.line_answers.proofs.block.answer_block.Goals as goal

pub loop-done-init : goal.loop-done-init
loop-done-init g c = record {
  config = refl;
  within = omega arith;
  goes = λ start bytes output going. still_goes _ _ start bytes output going;
  steady = refl;
}

pub loop-done-preserved : goal.loop-done-preserved
loop-done-preserved g c =
    let i = c.loop-done.invariant in
    let block = c.args.block.now in
    let line = c.answer_piece-taken in
    let at = c.loop-done in
    let before = progress_of (ledgers at.meters at.upkeep) at.cutter.held (g.K.Sink.held at.sink) in
    let after = progress_of (ledgers line.new.meters line.new.upkeep) line.new.cutter.held (g.K.Sink.held line.new.sink) in
    record {
      config = search rules;
      within = omega (
        arith,
        line.ensures.progress.1,
        length-take (length block - c.loop-done.done) (drop c.loop-done.done block),
        length-drop c.loop-done.done block,
      );
      goes = λ start bytes output going.
          goes_then (g.A.LineAnswers.answered c.loop-done.answers) (g.A.LineAnswers.answered line.new.answers)
          (g.K.Sink.held c.args.sink.now) before after start c.loop-done.done line.result.0 block bytes output (i.goes start bytes output going)
          line.result.1 line.ensures.flow _ (search rules);
      steady = search rules;
    }

pub returns-in-Err-clause-flow : goal.returns-in-Err-clause-flow
returns-in-Err-clause-flow g c = λ start bytes output going.
    let at = c.loop-done in
    let line = c.answer_piece-taken in
    let before = progress_of (ledgers at.meters at.upkeep) at.cutter.held (g.K.Sink.held at.sink) in
    let after = progress_of (ledgers line.new.meters line.new.upkeep) line.new.cutter.held (g.K.Sink.held line.new.sink) in
    broken_then (g.A.LineAnswers.answered at.answers) (g.A.LineAnswers.answered line.new.answers)
    (g.K.Sink.held c.args.sink.now) before after start c.loop-done.done c.answer_piece-taken.result.0 c.args.block.now bytes output
    (c.loop-done.invariant.goes start bytes output going) c.answer_piece-taken.result.1 c.answer_piece-taken.ensures.flow
    c.in-Err.field-0 c.in-Err.is

pub returns-clause-flow : goal.returns-clause-flow
returns-clause-flow g c = λ start bytes output going.
    all_goes (g.A.LineAnswers.answered c.loop-done.answers) (g.K.Sink.held c.args.sink.now)
    (progress_of (ledgers c.loop-done.meters c.loop-done.upkeep) c.loop-done.cutter.held (g.K.Sink.held c.loop-done.sink)) start c.loop-done.done
    c.args.block.now bytes output (omega arith) (c.loop-done.invariant.goes start bytes output going)
