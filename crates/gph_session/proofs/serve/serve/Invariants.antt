use Rattle.std.proofs.Common.{◌≡◌, ◌-◌}
use Rattle.session_model.specs.Outside.{ends}
use Rattle.layout_search.specs.Improves.{AreSamples}
use Rattle.open_session.specs.KeptBuild.{IsBuildOfDesk}
use Rattle.open_session.specs.Meaning.{HaveShards}
use Rattle.open_session.specs.Moments.{moment_of}
use Rattle.gph_session.specs.Flow.{start_at}
use Rattle.gph_session.specs.Serving.{Serves}
use Rattle.gph_session.proofs.serve.serve.Given as goal

-- the session goes on after the bytes that were read, and no fault rose
abbrev pub invariant-loop-session : goal.invariant-loop-session
invariant-loop-session g l = record {
  config : (g.D.Desk.desk l.desk).config ≡ l.config;
  shards : HaveShards l.config.shards l.session.queries;
  samples : AreSamples l.config.bits l.session.samples;
  build : IsBuildOfDesk (g.D.Desk.desk l.desk) l.session.build;
  serves : Serves l.config
      (start_at (moment_of (g.D.Desk.desk l.fn.desk) l.fn.session l.fn.meters l.fn.upkeep))
      (moment_of (g.D.Desk.desk l.desk) l.session l.meters l.upkeep) l.taken
      (ends (g.S.Source.left l.fn.source) (g.S.Source.faults l.fn.source))
      (ends (g.S.Source.left l.source) (g.S.Source.faults l.source))
      (ends (g.K.Sink.held l.fn.sink) (g.K.Sink.faults l.fn.sink))
      (ends (g.K.Sink.held l.sink) (g.K.Sink.faults l.sink)) l.session.cutter.held;
}

abbrev pub decreases-loop-session : goal.decreases-loop-session
decreases-loop-session g l = l.config.input - l.taken
