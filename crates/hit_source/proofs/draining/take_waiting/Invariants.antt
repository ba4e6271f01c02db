-- What was taken so far are the next hits; one waits less after each.
use Rattle.std.proofs.Common.{◌≡◌, length}
use Rattle.hit_source.specs.Drains.{TakesHits, OnlyGives}
use Rattle.hit_source.proofs.draining.take_waiting.Given as goal

abbrev pub invariant-loop-hit : goal.invariant-loop-hit
invariant-loop-hit g l =
    TakesHits (g.H.HitSource.asked l.fn.source) (g.H.HitSource.standing l.fn.source) (g.H.HitSource.standing l.source)
    l.fn.out.items l.out.items
    × OnlyGives (g.H.HitSource.standing l.fn.source) (g.H.HitSource.standing l.source)
    × (g.H.HitSource.asked l.source ≡ g.H.HitSource.asked l.fn.source)

abbrev pub decreases-loop-hit : goal.decreases-loop-hit
decreases-loop-hit g l = length (g.H.HitSource.standing l.source).waiting
