-- What the whole call has read, written and counted, by how it ended.
use Rattle.line_answers.specs.declared.ending.Ending.TheVariants.{Done, ReadFault, WriteFault, InputLimit}
use Rattle.gph_serve.proofs.TraceLemmas.{complete_trace, for_trace, unread_trace, usage_never}
use Rattle.gph_serve.proofs.trace_call.trace.Goals as goal

pub returns-in-Ok-clause-usage : goal.returns-in-Ok-clause-usage
returns-in-Ok-clause-usage g c = λ word.
    usage_never c.outcome_of.result c.answer_trace.result _ c.in-Ok.config word c.outcome_of.ensures c.in-Ok.ensures.value

pub returns-in-Ok-clause-unread : goal.returns-in-Ok-clause-unread
returns-in-Ok-clause-unread g c =
    unread_trace c.outcome_of.result c.answer_trace.result c.in-Ok.config _ c.outcome_of.ensures c.answer_trace.ensures

pub returns-in-Ok-clause-done : goal.returns-in-Ok-clause-done
returns-in-Ok-clause-done g c =
    for_trace Done c.outcome_of.result c.answer_trace.result _ c.in-Ok.config _ c.outcome_of.ensures c.in-Ok.ensures.value
    c.answer_trace.ensures

pub returns-in-Ok-clause-read_fault : goal.returns-in-Ok-clause-read_fault
returns-in-Ok-clause-read_fault g c =
    for_trace ReadFault c.outcome_of.result c.answer_trace.result _ c.in-Ok.config _ c.outcome_of.ensures c.in-Ok.ensures.value
    c.answer_trace.ensures

pub returns-in-Ok-clause-write_fault : goal.returns-in-Ok-clause-write_fault
returns-in-Ok-clause-write_fault g c =
    for_trace WriteFault c.outcome_of.result c.answer_trace.result _ c.in-Ok.config _ c.outcome_of.ensures c.in-Ok.ensures.value
    c.answer_trace.ensures

pub returns-in-Ok-clause-input_limit : goal.returns-in-Ok-clause-input_limit
returns-in-Ok-clause-input_limit g c =
    for_trace InputLimit c.outcome_of.result c.answer_trace.result _ c.in-Ok.config _ c.outcome_of.ensures c.in-Ok.ensures.value
    c.answer_trace.ensures

pub returns-in-Ok-clause-complete : goal.returns-in-Ok-clause-complete
returns-in-Ok-clause-complete g c =
    complete_trace c.outcome_of.result c.answer_trace.result _ c.in-Ok.config _ c.outcome_of.ensures c.in-Ok.ensures.value
    c.answer_trace.ensures
