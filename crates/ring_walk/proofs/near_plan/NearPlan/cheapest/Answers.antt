use Rattle.std.proofs.Common.{◌≡◌, ℕ, ◌∙◌, sym, ap, arith}
use Rattle.ring_model.specs.Rings.{ring_cost}
use Rattle.ring_walk.specs.NearPlanned.{near_counts}
use Rattle.ring_walk.proofs.NearPlanLemmas.{next_cheapest}
use Rattle.ring_walk.proofs.near_plan.NearPlan.cheapest.Goals as goal

pub loop-part-init : goal.loop-part-init
loop-part-init g c =
    let cost : ℕ → ℕ = ring_cost (near_counts c.args.self.now) c.args.units.now in
    let first = c.next_ring-best.ensures.part in (
      omega (arith, first),
      omega (arith, c.requires.some),
      c.next_ring-best.ensures.cost ∙ ap cost (sym first),
      λ other less. (let same : other ≡ c.next_ring-best.result.part = omega (arith, first) in omega (arith, ap cost same)),
    )

pub loop-part-preserved : goal.loop-part-preserved
loop-part-preserved g c =
    let cost : ℕ → ℕ = ring_cost (near_counts c.args.self.now) c.args.units.now in
    let before = c.loop-part.invariant in
    let next = next_cheapest cost c.loop-part.part c.loop-part.best.part c.loop-part.best.cost _ _ c.cheaper-best.result.part
    c.cheaper-best.result.cost before.0 before.2 before.3 c.next_ring.ensures.part c.next_ring.ensures.cost
    c.cheaper-best.ensures.one c.cheaper-best.ensures.first c.cheaper-best.ensures.second in
    (next.0, omega (arith, c.loop-part-test.true), next.1, next.2)

pub returns-clause-cheapest : goal.returns-clause-cheapest
returns-clause-cheapest g c = record {
  within = omega (arith, c.loop-part.invariant.0, c.loop-part.invariant.1);
  none_cheaper = λ other less. c.loop-part.invariant.3 other (omega (arith, c.loop-part-test.false));
}
