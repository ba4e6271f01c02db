-- What was taken so far are the next hits, and none waits; each poll spends units of work, or fills the room with hits to take.
use Rattle.std.proofs.Common.{◌≡◌, ◌+◌, ◌-◌, [], length}
use Rattle.hit_source.specs.Sources.{IsLawful}
use Rattle.hit_source.specs.Drains.{TakesHits}
use Rattle.hit_source.proofs.draining.drain.Given as goal

abbrev pub invariant-loop : goal.invariant-loop
invariant-loop g l =
    TakesHits (g.H.HitSource.asked l.fn.source) (g.H.HitSource.standing l.fn.source) (g.H.HitSource.standing l.source)
    l.fn.out.items l.out.items
    × ((g.H.HitSource.standing l.source).waiting ≡ [])
    × (l.steps + (g.H.HitSource.standing l.fn.source).reads ≡ l.fn.steps + (g.H.HitSource.standing l.source).reads)
    × (g.H.HitSource.asked l.source ≡ g.H.HitSource.asked l.fn.source)
    × IsLawful (g.H.HitSource.asked l.source) (g.H.HitSource.standing l.source)

abbrev pub decreases-loop : goal.decreases-loop
decreases-loop g l =
    (g.H.HitSource.standing l.source).units +
    (length (g.H.HitSource.asked l.source).hits - (g.H.HitSource.standing l.source).given)
