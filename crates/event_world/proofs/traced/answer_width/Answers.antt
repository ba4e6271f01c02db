-- A trace is of what was asked for from its first line to its end.
use Rattle.std.proofs.Common.{[], sym, subst, ◌∙◌}
use Rattle.line_answers.specs.Endings.{EndsAnswered}
use Rattle.part_layout.specs.declared.config.Config.{Config}
use Rattle.session_model.specs.Ledger.{ledgers}
use Rattle.session_model.specs.Outside.{call}
use Rattle.world_traces.specs.Traced.{IsTraced}
use Rattle.event_world.proofs.traced.answer_width.Goals as goal

pub answer_lines-ending-requires-clause-none : goal.answer_lines-ending-requires-clause-none
answer_lines-ending-requires-clause-none g c =
    let begun = c.new-tracing.result.world.world.state in
    let now = ledgers c.args.meters.now c.args.upkeep.now in
    subst (λ (config : Config). IsTraced config begun now now [] []) (sym c.new-tracing.ensures.config)
    (c.new-tracing.ensures.begun now)

pub returns : goal.returns
returns g c =
    let after = c.answer_lines-ending.new in
    let last = after.answers.world.world.state in
    let it = call g.S.Source.left g.S.Source.faults g.K.Sink.held g.K.Sink.faults c.args.source.now after.source c.args.sink.now after.sink
    c.args.meters.now after.meters c.args.upkeep.now after.upkeep in
    record {
      last = last;
      ends = subst (λ (config : Config). EndsAnswered c.answer_lines-ending.result (IsTraced config last) c.args.config.now.input it)
          (c.answer_lines-ending.ensures.config ∙ c.new-tracing.ensures.config) c.answer_lines-ending.ensures.ending;
    }
