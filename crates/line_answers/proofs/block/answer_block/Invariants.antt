use Rattle.std.proofs.Common.{◌≡◌, ℕ, ◌≤◌, ◌-◌, List, ◌++◌, length, take}
use Rattle.std.specs.Io.KnownBytes.{Appends}
use Rattle.session_model.specs.Ledger.{Ledgers, ledgers}
use Rattle.line_answers.specs.Flow.{HasAnswered, progress_of}
use Rattle.line_answers.proofs.block.answer_block.Given as goal

-- the call goes on after the front of the block, and no write has failed
abbrev pub invariant-loop-done : goal.invariant-loop-done
invariant-loop-done g l = record {
  config : g.A.LineAnswers.config l.answers ≡ g.A.LineAnswers.config l.fn.answers;
  within : l.done ≤ length l.block;
  goes : (start : Ledgers) (bytes output : List ℕ) → HasAnswered (g.A.LineAnswers.answered l.fn.answers)
      (progress_of (ledgers l.fn.meters l.fn.upkeep) l.fn.cutter.held (g.K.Sink.held l.fn.sink)) start bytes output
      → (more : List ℕ) × Appends (g.K.Sink.held l.fn.sink) (g.K.Sink.held l.sink) more
      × HasAnswered (g.A.LineAnswers.answered l.answers)
      (progress_of (ledgers l.meters l.upkeep) l.cutter.held (g.K.Sink.held l.sink)) start
      (bytes ++ take l.done l.block) (output ++ more);
  steady : g.K.Sink.faults l.sink ≡ g.K.Sink.faults l.fn.sink;
}

abbrev pub decreases-loop-done : goal.decreases-loop-done
decreases-loop-done g l = length l.block - l.done
