-- A line that is too long has its fault.
use Rattle.std.proofs.Common.{refl}
use Rattle.trace_lines.specs.Traces.{Faulty}
use Rattle.world_traces.proofs.TracedLemmas.{told_line}
use Rattle.world_traces.proofs.answering.answer_long_line.Goals as goal

pub returns : goal.returns
returns c = λ config state line now long.
    told_line c.a_trace_goes_on.ensures.told config state now now line c.write.new.out (Faulty c.line_too_long.result)
    (c.line_too_long.ensures config.bits line long) tt c.write.ensures refl
