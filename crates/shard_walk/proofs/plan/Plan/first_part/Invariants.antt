use Rattle.std.proofs.Common.{◌≡◌, ◌+◌, map, drop}
use Rattle.threshold_model.specs.Vectors.{units_of}
use Rattle.threshold_model.specs.Finding.{first_part, part_distances}
use Rattle.shard_walk.specs.Planned.{parts_of, code_of_plan, planned_query, part_found}
use Rattle.shard_walk.proofs.plan.Plan.first_part.Given as goal

abbrev pub invariant-loop-part : goal.invariant-loop-part
invariant-loop-part g l =
    part_found l.self (code_of_plan l.self l.code)
    ≡ l.part + first_part (drop l.part (map units_of l.self.thresholds))
    (drop l.part (part_distances (parts_of l.self) (code_of_plan l.self l.code) (planned_query l.self)))
