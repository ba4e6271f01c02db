-- A line is answered by the world of the trace.
use Rattle.std.proofs.Common.{ap, subst}
use Rattle.line_answers.specs.Answered.{AnswersNext}
use Rattle.part_layout.specs.declared.config.Config.{Config}
use Rattle.session_model.specs.Ledger.{ledgers}
use Rattle.world_model.specs.WorldState.{WorldState}
use Rattle.world_traces.specs.Traced.{IsTraced}
use Rattle.world_traces.proofs.tracing.TracingLineAnswers.answer.Goals as goal

pub returns-clause-answers : goal.returns-clause-answers
returns-clause-answers g c =
    let inside = c.self.inside in
    let after = IsTraced inside.config (g.C.MeetsEvents.state c.answer_line.new.world) in
    let old = ledgers c.args.meters.now c.args.upkeep.now in
    let new = ledgers c.answer_line.new.meters c.answer_line.new.upkeep in
    let out = c.answer_line.new.out in
    let config_is = ap (λ t. t.config) c.self.view_is in
    let state_is = ap (λ t. g.C.MeetsEvents.state t.world) c.self.view_is in
    subst (λ (s : WorldState). AnswersNext (IsTraced c.args.self.now.config s) after old new c.args.line.now out) state_is
    (subst (λ (k : Config). AnswersNext (IsTraced k (g.C.MeetsEvents.state inside.world)) after old new c.args.line.now out) config_is
    c.answer_line.ensures.answers)
