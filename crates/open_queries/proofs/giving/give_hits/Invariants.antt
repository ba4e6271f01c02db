-- The first hits were given and written, and no write has failed.
use Rattle.std.proofs.Common.{◌≡◌, ◌-◌, ◌≤◌}
use Rattle.open_queries.specs.Giving.{HasGiven}
use Rattle.open_queries.proofs.giving.give_hits.Given as goal

abbrev pub invariant-loop-given : goal.invariant-loop-given
invariant-loop-given g l = record {
  few : l.given ≤ l.count;
  has : HasGiven g.H.HitSource.asked g.H.HitSource.standing l.tag l.given l.fn.gather l.gather
      (g.K.Sink.held l.fn.sink) (g.K.Sink.held l.sink) l.fn.meters l.meters;
  steady : g.K.Sink.faults l.sink ≡ g.K.Sink.faults l.fn.sink;
}

abbrev pub decreases-loop-given : goal.decreases-loop-given
decreases-loop-given g l = l.count - l.given
