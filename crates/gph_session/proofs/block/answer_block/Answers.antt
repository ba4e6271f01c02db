-- The lines of a block, one after the other.
use Rattle.std.proofs.Common.{◌-◌, length, drop, refl, arith, rules}
use Rattle.std.proofs.lemmas.List.{length-drop, length-take}
use Rattle.gph_session.proofs.BlockLemmas.{all_goes, goes_then, quits_then, refused_then, still_goes}
use Rattle.gph_session.proofs.block.answer_block.Goals as goal

pub loop-done-init : goal.loop-done-init
loop-done-init g c = record {
  within = omega arith;
  config = c.requires.config;
  shards = c.requires.shards;
  samples = c.requires.samples;
  build = c.requires.build;
  goes = λ start bytes output going.
      let held = g.K.Sink.held c.args.sink.now in
      still_goes c.args.config.now start _ bytes output c.args.session.now.cutter.held going held held held;
  steady = refl;
}

pub loop-done-preserved : goal.loop-done-preserved
loop-done-preserved g c =
    let i = c.loop-done.invariant in
    let block = c.args.block.now in
    let line = c.answer_line-taken in
    record {
      within = omega (
        arith,
        line.ensures.progress.1,
        length-take (length block - c.loop-done.done) (drop c.loop-done.done block),
        length-drop c.loop-done.done block,
      );
      config = line.ensures.config;
      shards = line.ensures.shards;
      samples = line.ensures.samples;
      build = line.ensures.build;
      goes = λ start bytes output going.
          goes_then c.args.config.now start _ _ c.loop-done.done line.result.0 block bytes output
          (g.K.Sink.held c.args.sink.now) (g.K.Sink.held c.loop-done.sink) (g.K.Sink.held line.new.sink)
          c.loop-done.session.cutter.held line.new.session.cutter.held (i.goes start bytes output going)
          line.result.1 line.ensures.flow (search rules);
      steady = search rules;
    }

pub returns-in-Ok-Quits-clause-flow : goal.returns-in-Ok-Quits-clause-flow
returns-in-Ok-Quits-clause-flow g c = λ start bytes output going.
    quits_then c.args.config.now start _ _ c.loop-done.done c.answer_line-taken.result.0 c.args.block.now bytes output _ _ _ _ _
    (c.loop-done.invariant.goes start bytes output going) c.answer_line-taken.result.1 c.answer_line-taken.ensures.flow (search rules)

pub returns-in-Err-clause-flow : goal.returns-in-Err-clause-flow
returns-in-Err-clause-flow g c = λ start bytes output going.
    refused_then c.args.config.now start _ _ c.loop-done.done c.answer_line-taken.result.0 c.args.block.now bytes output _ _ _ _ _
    (c.loop-done.invariant.goes start bytes output going) c.answer_line-taken.result.1 c.answer_line-taken.ensures.flow
    c.in-Err.field-0 c.in-Err.is

pub returns-clause-flow : goal.returns-clause-flow
returns-clause-flow g c = λ start bytes output going.
    all_goes c.args.config.now start _ c.loop-done.done c.args.block.now bytes output _ _ _ (omega arith)
    (c.loop-done.invariant.goes start bytes output going)
