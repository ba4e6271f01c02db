-- Polls so far gave no hit, and each round leaves less to do.
use Rattle.std.specs.Prelude.{sum_by}
use Rattle.scatter_gather.specs.Gathering.{sources_of, seen}
use Rattle.scatter_gather.specs.Due.{todo}
use Rattle.scatter_gather.specs.Kept.{IsGathering}
use Rattle.scatter_gather.specs.Moves.{Waited}
use Rattle.scatter_gather.proofs.gather.Gather.more.Given as goal

abbrev pub invariant-loop-self : goal.invariant-loop-self
invariant-loop-self g l =
    Waited g.H.HitSource.asked g.H.HitSource.standing l.fn.self l.self l.fn.meters l.meters × IsGathering
    (seen g.H.HitSource.asked g.H.HitSource.standing l.self)

abbrev pub decreases-loop-self : goal.decreases-loop-self
decreases-loop-self g l = sum_by todo (sources_of g.H.HitSource.asked g.H.HitSource.standing l.self.sources)
