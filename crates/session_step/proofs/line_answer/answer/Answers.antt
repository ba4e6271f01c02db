-- A line is answered by a step of a session.
use Rattle.std.proofs.Common.{◌≡◌, Ok, is_some, refl, sym, ap, ◌∙◌, subst, rules}
use Rattle.std.proofs.KnownBytes.{Appends-nil}
use Rattle.query_protocol.specs.Stored.{unstored_reading}
use Rattle.session_model.specs.Commits.{is_answered}
use Rattle.query_protocol.specs.Replies.{reply_line}
use Rattle.open_queries.specs.Writing.{IsCaused, Writes}
use Rattle.open_session.specs.Moments.{moment_of}
use Rattle.session_step.specs.Answering.{TurnIs, fault_reply}
use Rattle.open_session.proofs.Here.{here_of}
use Rattle.session_step.proofs.TurnLemmas.{turn_of, fault_step, fault_answered, nothing_turn, caused_turn}
use Rattle.session_step.proofs.line_answer.answer.Goals as goal

pub returns-in-Ok-None-clause-answers : goal.returns-in-Ok-None-clause-answers
returns-in-Ok-None-clause-answers g c = λ line tells history s stands.
    nothing_turn (here_of c.args.config.now _ (g.K.Sink.held c.args.sink.now) line history s stands) _
    (sym (c.in-Ok-None.ensures.reads line tells).asked ∙ ap (λ r. unstored_reading c.args.config.now.bits (Ok r)) c.in-Ok-None.field-0-is) (Appends-nil _)

pub returns-in-Ok-Some : goal.returns-in-Ok-Some
returns-in-Ok-Some g c =
    let call = c.meet-answered in
    record {
      answers = λ line tells history s stands.
          let held = g.K.Sink.held in
          let config = c.args.config.now in
          let old = moment_of (g.D.Desk.desk c.args.desk.now) c.args.session.now c.args.meters.now c.args.upkeep.now in
          let mid = moment_of (g.D.Desk.desk call.new.desk) call.new.session call.new.meters call.new.upkeep in
          let p = here_of config old (held c.args.sink.now) line history s stands in
          let asks = sym (c.in-Ok-Some.ensures.reads line tells).asked ∙ ap (λ r. unstored_reading config.bits (Ok r)) c.in-Ok-Some.field-0-is in
          subst (λ r. TurnIs r g.row.W config history s line (held c.args.sink.now) (held call.new.sink) old
          (record mid { requests = c.saturating_add-session.result })) (sym c.goes_on.ensures)
          (turn_of p (held call.new.sink) call.result mid c.saturating_add-session.result
          (call.ensures.answers line asks history s stands) c.saturating_add-session.ensures call.ensures.requests
          (ap is_answered asks));
      cutter = call.ensures.cutter;
      config = call.ensures.config;
      shards = call.ensures.shards;
      samples = call.ensures.samples;
      build = call.ensures.build;
      cause = subst (IsCaused (g.K.Sink.faults c.args.sink.now) (g.K.Sink.faults call.new.sink)) (sym c.goes_on.ensures)
          (caused_turn _ _ call.result call.ensures.cause);
    }

pub returns-in-Err-clause-answers : goal.returns-in-Err-clause-answers
returns-in-Err-clause-answers g c = λ line tells history s stands.
    let held = g.K.Sink.held in
    let config = c.args.config.now in
    let said = c.say-answered in
    let old = moment_of (g.D.Desk.desk c.args.desk.now) c.args.session.now c.args.meters.now c.args.upkeep.now in
    let p = here_of config old (held c.args.sink.now) line history s stands in
    let reads = c.in-Err.ensures.reads line tells in
    let has : c.is_some.result ≡ is_some c.args.session.now.build = search rules in
    subst (λ r. TurnIs r g.row.W config history s line (held c.args.sink.now) (held said.new.sink) old
    (record old { requests = c.saturating_add-session-in-Err.result })) (sym c.goes_on-in-Err.ensures)
    (turn_of p (held said.new.sink) said.result old c.saturating_add-session-in-Err.result
    (fault_step p (held said.new.sink) said.result c.in-Err.fault reads
    (subst (λ r. Writes (held c.args.sink.now) (held said.new.sink) said.result (reply_line r))
    (c.reply_to_fault-reply.ensures ∙ ap (fault_reply c.in-Err.fault) has) said.ensures.written))
    c.saturating_add-session-in-Err.ensures refl (fault_answered p c.in-Err.fault reads))
