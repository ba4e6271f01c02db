-- What the whole call has read, written and counted, by how it ended.
use Rattle.session_model.specs.Run.{IsRunAlone}
use Rattle.session_model.specs.Outcomes.{IsDone, IsReadFault, IsWriteFault, IsInputLimit}
use Rattle.gph_serve.specs.declared.outcome.Outcome.TheVariants.{Done, ReadFault, WriteFault, InputLimit}
use Rattle.gph_serve.proofs.CompleteLemmas.{for_run, for_load, unread_as, complete_as}
use Rattle.gph_serve.proofs.top.run.Goals as goal

pub returns-in-Ok-clause-unread : goal.returns-in-Ok-clause-unread
returns-in-Ok-clause-unread g c = unread_as c.serve_command.result _ c.in-Ok.command _ c.in-Ok.ensures.value c.serve_command.ensures

pub returns-in-Ok-clause-done : goal.returns-in-Ok-clause-done
returns-in-Ok-clause-done g c = λ is.
    for_run c.serve_command.result Done (IsDone IsRunAlone) _ c.in-Ok.command _ is c.in-Ok.ensures.value
    c.serve_command.ensures (λ config ended. ended)

pub returns-in-Ok-clause-read_fault : goal.returns-in-Ok-clause-read_fault
returns-in-Ok-clause-read_fault g c = λ is.
    for_run c.serve_command.result ReadFault (IsReadFault IsRunAlone) _ c.in-Ok.command _ is c.in-Ok.ensures.value
    c.serve_command.ensures (λ config ended. ended)

pub returns-in-Ok-clause-write_fault : goal.returns-in-Ok-clause-write_fault
returns-in-Ok-clause-write_fault g c = λ is.
    for_run c.serve_command.result WriteFault (IsWriteFault IsRunAlone) _ c.in-Ok.command _ is c.in-Ok.ensures.value
    c.serve_command.ensures (λ config ended. ended)

pub returns-in-Ok-clause-input_limit : goal.returns-in-Ok-clause-input_limit
returns-in-Ok-clause-input_limit g c = λ is.
    for_run c.serve_command.result InputLimit (IsInputLimit IsRunAlone) _ c.in-Ok.command _ is c.in-Ok.ensures.value
    c.serve_command.ensures (λ config ended. ended)

pub returns-in-Ok-clause-complete : goal.returns-in-Ok-clause-complete
returns-in-Ok-clause-complete g c = complete_as c.serve_command.result _ c.in-Ok.command _ c.in-Ok.ensures.value c.serve_command.ensures

pub returns-in-Ok-clause-load : goal.returns-in-Ok-clause-load
returns-in-Ok-clause-load g c = for_load c.serve_command.result _ c.in-Ok.command _ c.in-Ok.ensures.value c.serve_command.ensures
