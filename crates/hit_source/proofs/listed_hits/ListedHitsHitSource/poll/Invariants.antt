-- Each unit of work so far was done on these hits with this room.
use Rattle.std.proofs.Common.{◌≡◌, None}
use Rattle.hit_source.specs.Work.{Works}
use Rattle.hit_source.specs.Listed.{standing_of_list}
use Rattle.hit_source.proofs.listed_hits.ListedHitsHitSource.poll.Given as goal

abbrev pub invariant-loop-done : goal.invariant-loop-done
invariant-loop-done g l =
    (l.self.window.found ≡ l.fn.self.window.found)
    × (l.self.window.room ≡ l.fn.self.window.room)
    × Works None l._done (standing_of_list l.fn.self.window l.fn.self.reads)
    (standing_of_list l.self.window l.self.reads) l.fn.steps l.steps
