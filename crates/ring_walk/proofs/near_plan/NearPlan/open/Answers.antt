use Rattle.ring_walk.proofs.NearPlanLemmas.{near_of_table}
use Rattle.ring_walk.proofs.near_plan.NearPlan.open.Goals as goal

pub invariant_of-result : goal.invariant_of-result
invariant_of-result g c =
    let table = c.in_ok-counts.counts in
    near_of_table c.vector_allows_tau_and_one_units.ensures.most g.row.W c.in_ok-probe.probe c.parts.ensures.probed c.in_ok-radii.radii
    table.counts.items table.tau table.parts _ _ c.in_ok-counts.ensures.tau c.bits-bits.ensures.bits c.in_ok-counts.ensures.parts
    c.parts.ensures.parts c.in_ok-counts.ensures.counts c.in_ok-radii.ensures.plans
