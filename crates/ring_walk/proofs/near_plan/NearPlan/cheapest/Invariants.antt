-- The best part so far is cheapest among the parts so far.
use Rattle.std.proofs.Common.{◌≡◌, ℕ, ◌<◌, ◌≤◌, length}
use Rattle.ring_model.specs.Rings.{ring_cost}
use Rattle.ring_walk.specs.NearPlanned.{near_counts}
use Rattle.ring_walk.proofs.near_plan.NearPlan.cheapest.Given as goal

abbrev pub invariant-loop-part : goal.invariant-loop-part
invariant-loop-part g l =
    (l.best.part < l.part)
    × (l.part ≤ length l.units)
    × (l.best.cost ≡ ring_cost (near_counts l.self) l.units l.best.part)
    × ((other : ℕ) → other < l.part
    → ring_cost (near_counts l.self) l.units l.best.part ≤ ring_cost (near_counts l.self) l.units other)
