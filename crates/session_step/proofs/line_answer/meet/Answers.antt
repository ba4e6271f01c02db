-- A request that isn't on builds is met by a step of which the build stays.
use Rattle.std.proofs.Common.{sym, ◌∙◌, subst}
use Rattle.query_protocol.specs.Stored.{unstored}
use Rattle.open_session.specs.KeptBuild.{IsBuildOfDesk}
use Rattle.open_session.specs.Moments.{Point, point_of}
use Rattle.open_session.proofs.WholeLemmas.{answered_whole, has_build_later, plain_request}
use Rattle.session_step.proofs.line_answer.meet.Goals as goal

pub returns-in_default : goal.returns-in_default
returns-in_default g c =
    let call = c.meet_plainly in
    let held = g.K.Sink.held in
    let config = c.args.config.now in
    let before = g.D.Desk.desk c.args.desk.now in
    let after = g.D.Desk.desk call.new.desk in
    let old : Point g.row.W = point_of before c.args.session.now c.args.meters.now c.args.upkeep.now (held c.args.sink.now) in
    let new : Point g.row.W = point_of after call.new.session call.new.meters call.new.upkeep (held call.new.sink) in
    let asked = c.args.request in
    record {
      answers = answered_whole (unstored config.bits asked) (plain_request config.bits asked call.ensures.plain) call.result
          config old new call.ensures.build call.ensures.builds call.ensures.answers;
      cutter = call.ensures.cutter;
      requests = call.ensures.requests;
      config = call.ensures.config;
      shards = call.ensures.shards;
      samples = call.ensures.samples;
      build = subst (IsBuildOfDesk after) (sym call.ensures.build)
          (has_build_later before after (call.ensures.config ∙ sym c.requires.config) call.ensures.builds
          c.args.session.now.build c.requires.build);
      cause = call.ensures.cause;
    }
