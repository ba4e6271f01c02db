-- Polls so far gave no hit, and each round leaves less to do.
use Rattle.std.proofs.Common.{◌≡◌}
use Rattle.std.specs.Prelude.{sum_by}
use Rattle.hit_source.specs.Moves.{first_of}
use Rattle.scatter_gather.specs.Gathering.{sources_of, seen, answer_left}
use Rattle.scatter_gather.specs.Due.{todo}
use Rattle.scatter_gather.specs.Moves.{Waited, BeginsUpTo, distance_of}
use Rattle.scatter_gather.proofs.gather.Gather.next.Given as goal

abbrev pub invariant-loop-hit : goal.invariant-loop-hit
invariant-loop-hit g l =
    Waited g.H.HitSource.asked g.H.HitSource.standing l.fn.self l.self l.fn.meters l.meters
    × BeginsUpTo g.H.HitSource.standing
    (distance_of (first_of (answer_left (seen g.H.HitSource.asked g.H.HitSource.standing l.fn.self))))
    l.fn.self.sources l.self.sources
    × (l.fn.self.given ≡ l.fn.self.limit → l.self ≡ l.fn.self)

abbrev pub decreases-loop-hit : goal.decreases-loop-hit
decreases-loop-hit g l = sum_by todo (sources_of g.H.HitSource.asked g.H.HitSource.standing l.self.sources)
