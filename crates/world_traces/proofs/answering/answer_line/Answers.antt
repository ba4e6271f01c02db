-- A line is no event, or one that the world meets.
use Rattle.std.proofs.Common.{ℕ, refl, ap, ◌∙◌, subst}
use Rattle.session_model.specs.Ledger.{ledgers}
use Rattle.trace_lines.specs.AnswerTexts.{answer_line}
use Rattle.trace_lines.specs.EventLines.{event_reading}
use Rattle.trace_lines.specs.EventRequests.{event_of}
use Rattle.trace_lines.specs.Traces.{Skipped, Faulty, Unread}
use Rattle.world_model.specs.Events.{Setting}
use Rattle.world_model.specs.WorldStep.{WorldStep}
use Rattle.world_traces.specs.Traced.{first_layout, setting_for}
use Rattle.world_traces.proofs.TracedLemmas.{met_line, told_line}
use Rattle.world_traces.proofs.TracedLemmas.{reads_event, reads_fault, reads_no_layout, reads_nothing}
use Rattle.world_traces.proofs.answering.answer_line.Goals as goal

pub returns-in-Ok-None-clause-answers : goal.returns-in-Ok-None-clause-answers
returns-in-Ok-None-clause-answers g c =
    told_line c.a_trace_goes_on.ensures.told c.args.config.now (g.C.MeetsEvents.state c.args.world.now)
    (ledgers c.args.meters.now c.args.upkeep.now) (ledgers c.args.meters.now c.args.upkeep.now) c.args.line.now c.args.out.now Skipped
    (reads_nothing c.args.config.now.bits (event_reading c.args.config.now.bits c.args.line.now) c.in-Ok-None.field-0
    c.in-Ok-None.ensures c.in-Ok-None.field-0-is) tt c.requires.empty refl

pub returns-in-Ok-Some-clause-answers : goal.returns-in-Ok-Some-clause-answers
returns-in-Ok-Some-clause-answers g c =
    let config = c.args.config.now in
    let z = setting_for config in
    let request = c.in-Ok-Some.request in
    let reads = reads_event config.bits (event_reading config.bits c.args.line.now) c.in-Ok-Some.field-0 request
    c.in-Ok-Some.ensures c.in-Ok-Some.field-0-is in
    let answer = c.meet-answer.result in
    let before = g.C.MeetsEvents.state c.args.world.now in
    let after = g.C.MeetsEvents.state c.meet-answer.new.self in
    let first = c.each_event_keeps_the_rules.ensures.begins z (first_layout config) c.requires.first in
    let step = subst (λ (s : Setting). WorldStep s before (event_of s.bits request) answer after) c.requires.setting
    c.meet-answer.ensures.step in
    let written = c.write_answer.ensures ∙ ap (λ (n : ℕ). answer_line n answer) (c.subject-subject.ensures config.bits) in
    met_line c.a_trace_goes_on.ensures.met c.a_trace_goes_on.ensures.sound
    c.reads_are_bounded.ensures.within config first before after (ledgers c.args.meters.now c.args.upkeep.now)
    (ledgers c.meet-answer.new.meters c.meet-answer.new.upkeep) c.args.line.now c.write_answer.new.out
    (event_of config.bits request) answer reads.0
    (c.what_is_read_is_formed.ensures _ z request reads.1) step c.meet-answer.ensures.ledgers written

pub returns-in-Err-Bad-clause-answers : goal.returns-in-Err-Bad-clause-answers
returns-in-Err-Bad-clause-answers g c =
    let counted = ledgers c.args.meters.now c.args.upkeep.now in
    told_line c.a_trace_goes_on.ensures.told c.args.config.now (g.C.MeetsEvents.state c.args.world.now) counted counted
    c.args.line.now c.write.new.out (Faulty c.in-Err-Bad.fault)
    (reads_fault g.row.W c.args.config.now.bits (event_reading c.args.config.now.bits c.args.line.now) c.in-Err-Bad.field-0
    c.in-Err-Bad.fault c.in-Err-Bad.ensures c.in-Err-Bad.field-0-is) tt c.write.ensures refl

pub returns-in-Err-NoMemory-clause-answers : goal.returns-in-Err-NoMemory-clause-answers
returns-in-Err-NoMemory-clause-answers g c =
    let counted = ledgers c.args.meters.now c.args.upkeep.now in
    let config = c.args.config.now in
    told_line c.a_trace_goes_on.ensures.told config (g.C.MeetsEvents.state c.args.world.now) counted counted
    c.args.line.now c.write-in-Err-NoMemory.new.out Unread
    (reads_no_layout g.row.W config.bits (event_reading config.bits c.args.line.now) c.in-Err-NoMemory.field-0
    c.in-Err-NoMemory.ensures c.in-Err-NoMemory.field-0-is) tt
    c.write-in-Err-NoMemory.ensures refl
