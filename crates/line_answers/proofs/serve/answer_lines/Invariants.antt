use Rattle.std.proofs.Common.{◌≡◌, ◌-◌}
use Rattle.session_model.specs.Ledger.{ledgers}
use Rattle.session_model.specs.Outside.{ends}
use Rattle.line_answers.specs.Flow.{IsServing, progress_of}
use Rattle.line_answers.proofs.serve.answer_lines.Given as goal

-- the call goes on after the bytes that were read, and no fault rose
abbrev pub invariant-loop-answers : goal.invariant-loop-answers
invariant-loop-answers g l = (g.A.LineAnswers.config l.answers ≡ g.A.LineAnswers.config l.fn.answers)
    × IsServing (g.A.LineAnswers.answered l.answers) l.limit l.taken
    (ledgers l.fn.meters l.fn.upkeep)
    (progress_of (ledgers l.meters l.upkeep) l.cutter.held (g.K.Sink.held l.sink))
    (ends (g.S.Source.left l.fn.source) (g.S.Source.faults l.fn.source))
    (ends (g.S.Source.left l.source) (g.S.Source.faults l.source))
    (ends (g.K.Sink.held l.fn.sink) (g.K.Sink.faults l.fn.sink))
    (ends (g.K.Sink.held l.sink) (g.K.Sink.faults l.sink))

abbrev pub decreases-loop-answers : goal.decreases-loop-answers
decreases-loop-answers g l = l.limit - l.taken
