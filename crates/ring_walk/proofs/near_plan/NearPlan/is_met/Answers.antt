use Rattle.std.proofs.Common.{length, get_or, ap, ◌∙◌, arith}
use Rattle.std.proofs.lemmas.Bool.{lt-ltb, le-ltb}
use Rattle.hamming_model.specs.Layouts.{part_distance}
use Rattle.shard_probe.specs.Probed.{code_in}
use Rattle.ring_walk.specs.NearPlanned.{NearPlanned, near_parts, near_part, near_query}
use Rattle.ring_walk.proofs.RingWalkLemmas.{below_step, found_at, passed_at}
use Rattle.ring_walk.proofs.near_plan.NearPlan.is_met.Goals as goal

pub returns-then-distance_at-units : goal.returns-then-distance_at-units
returns-then-distance_at-units g c =
    let own = c.args.self.now in
    let code = code_in own.version c.args.code.now in
    let number = c.parts-part-end.ensures.parts ∙ ap (λ (p : NearPlanned). length (near_parts p)) c.self.view_is in
    let apart = c.distance_at.ensures.distance
    ∙ ap (λ (p : NearPlanned). part_distance (near_part p c.loop-part.part) (code_in p.version c.args.code.now) (near_query p)) c.self.view_is in
    found_at _ _ _ _ c.loop-part.invariant
    (below_step (near_parts own) c.args.units.now code (near_query own) c.loop-part.part c.requires.units (omega arith))
    (lt-ltb (part_distance (near_part own c.loop-part.part) code (near_query own)) (get_or c.args.units.now c.loop-part.part 0)
    (omega (arith, apart, c.if-distance_at-units.true)))

pub loop-part-preserved : goal.loop-part-preserved
loop-part-preserved g c =
    let own = c.args.self.now in
    let code = code_in own.version c.args.code.now in
    let number = c.parts-part-end.ensures.parts ∙ ap (λ (p : NearPlanned). length (near_parts p)) c.self.view_is in
    let apart = c.distance_at.ensures.distance
    ∙ ap (λ (p : NearPlanned). part_distance (near_part p c.loop-part.part) (code_in p.version c.args.code.now) (near_query p)) c.self.view_is in
    passed_at _ _ _ _ c.loop-part.invariant
    (below_step (near_parts own) c.args.units.now code (near_query own) c.loop-part.part c.requires.units (omega arith))
    (le-ltb (part_distance (near_part own c.loop-part.part) code (near_query own)) (get_or c.args.units.now c.loop-part.part 0)
    (omega (arith, apart, c.if-distance_at-units.false)))
