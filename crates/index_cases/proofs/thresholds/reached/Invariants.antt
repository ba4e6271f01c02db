-- The count is that of the distances so far.
use Rattle.std.proofs.Common.{◌≡◌, ◌≤◌, take}
use Rattle.index_cases.specs.Listing.{nearer}
use Rattle.index_cases.proofs.thresholds.reached.Given as goal

abbrev pub invariant-loop-place : goal.invariant-loop-place
invariant-loop-place l = (l.count ≤ l.place) × (l.count ≡ nearer (take l.place l.distances) l.units)
