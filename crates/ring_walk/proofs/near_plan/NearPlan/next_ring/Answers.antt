use Rattle.std.proofs.Common.{get_or, refl, subst, ◌∙◌}
use Rattle.ring_walk.specs.NearKept.{IsNearKept}
use Rattle.ring_walk.proofs.NearPlanLemmas.{next_cost}
use Rattle.ring_walk.proofs.near_plan.NearPlan.next_ring.Goals as goal

pub returns-clause-cost : goal.returns-clause-cost
returns-clause-cost g c =
    let table = c.self.inside.counts in
    let kept = subst (λ p. IsNearKept g.row.W p table.tau table.parts table.counts.items) c.self.view_is c.self.invariant in
    c.from.ensures ∙ c.saturating_sub.ensures
    ∙ next_cost g.row.W c.args.self.now table.tau table.parts table.counts.items kept c.args.units.now c.args.part
    (get_or c.args.units.now c.args.part 0) c.at-more.result c.at-fewer.result refl c.requires.part c.requires.within
    c.at-more.ensures c.at-fewer.ensures
