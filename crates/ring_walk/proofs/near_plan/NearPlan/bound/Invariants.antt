use Rattle.std.proofs.Common.{◌≡◌, sum, take}
use Rattle.ring_walk.proofs.near_plan.NearPlan.bound.Given as goal

abbrev pub invariant-loop-radius : goal.invariant-loop-radius
invariant-loop-radius g l = l.sum ≡ sum (take l.radius l.self.plans.leasts)
