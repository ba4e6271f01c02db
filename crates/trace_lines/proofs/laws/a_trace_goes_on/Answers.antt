use Rattle.trace_lines.proofs.TraceLemmas.{begins, told_more, met_more, stays_sound}
use Rattle.trace_lines.proofs.laws.a_trace_goes_on.Goals as goal

pub returns-clause-begins : goal.returns-clause-begins
returns-clause-begins c = begins c.every_list_of_events_answers_the_scan.ensures.all

pub returns-clause-told : goal.returns-clause-told
returns-clause-told c = told_more

pub returns-clause-met : goal.returns-clause-met
returns-clause-met c = met_more c.every_list_of_events_answers_the_scan.ensures.all

pub returns-clause-sound : goal.returns-clause-sound
returns-clause-sound c = stays_sound
