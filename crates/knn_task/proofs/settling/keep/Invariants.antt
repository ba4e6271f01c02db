-- The new hits of the postings so far stand behind those that were found.
use Rattle.std.proofs.Common.{◌≡◌, take}
use Rattle.ring_walk.specs.RingWalks.{new_of}
use Rattle.knn_task.specs.Near.{with_new}
use Rattle.knn_task.proofs.settling.keep.Given as goal

abbrev pub invariant-loop-posting : goal.invariant-loop-posting
invariant-loop-posting g l = l.window ≡ with_new l.fn.window (new_of l.plan l.walk.units (take l.posting-index l.run))
