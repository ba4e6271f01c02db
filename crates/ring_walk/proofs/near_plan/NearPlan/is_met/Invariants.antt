-- No part so far finds the code.
use Rattle.std.proofs.Common.{◌≡◌, drop}
use Rattle.threshold_model.specs.Finding.{part_distances}
use Rattle.ring_model.specs.Rings.{is_below_some}
use Rattle.shard_probe.specs.Probed.{code_in}
use Rattle.ring_walk.specs.NearPlanned.{near_parts, near_query}
use Rattle.ring_walk.proofs.near_plan.NearPlan.is_met.Given as goal

abbrev pub invariant-loop-part : goal.invariant-loop-part
invariant-loop-part g l =
    is_below_some l.units (part_distances (near_parts l.self) (code_in l.self.version l.code) (near_query l.self))
    ≡ is_below_some (drop l.part l.units)
    (drop l.part (part_distances (near_parts l.self) (code_in l.self.version l.code) (near_query l.self)))
