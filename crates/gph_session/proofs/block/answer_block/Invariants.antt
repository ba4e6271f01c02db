use Rattle.std.proofs.Common.{◌≡◌, ℕ, ◌≤◌, ◌-◌, List, ◌++◌, length, take}
use Rattle.std.specs.Io.KnownBytes.{Appends}
use Rattle.layout_search.specs.Improves.{AreSamples}
use Rattle.open_session.specs.KeptBuild.{IsBuildOfDesk}
use Rattle.open_session.specs.Meaning.{HaveShards}
use Rattle.open_session.specs.Moments.{moment_of}
use Rattle.gph_session.specs.Flow.{Start, GoesOn}
use Rattle.gph_session.proofs.block.answer_block.Given as goal

-- the session goes on after the front of the block, and no write has failed
abbrev pub invariant-loop-done : goal.invariant-loop-done
invariant-loop-done g l = record {
  within : l.done ≤ length l.block;
  config : (g.D.Desk.desk l.desk).config ≡ l.config;
  shards : HaveShards l.config.shards l.session.queries;
  samples : AreSamples l.config.bits l.session.samples;
  build : IsBuildOfDesk (g.D.Desk.desk l.desk) l.session.build;
  goes : (start : Start) (bytes output : List ℕ) → GoesOn l.config start
      (moment_of (g.D.Desk.desk l.fn.desk) l.fn.session l.fn.meters l.fn.upkeep) bytes output
      l.fn.session.cutter.held
      → (more : List ℕ) × Appends (g.K.Sink.held l.fn.sink) (g.K.Sink.held l.sink) more
      × GoesOn l.config start (moment_of (g.D.Desk.desk l.desk) l.session l.meters l.upkeep)
      (bytes ++ take l.done l.block) (output ++ more) l.session.cutter.held;
  steady : g.K.Sink.faults l.sink ≡ g.K.Sink.faults l.fn.sink;
}

abbrev pub decreases-loop-done : goal.decreases-loop-done
decreases-loop-done g l = length l.block - l.done
