-- The least costs of all radii fit a number.
use Rattle.std.proofs.Common.{◌+◌, get_or, ap, ◌∙◌, subst, arith}
use Rattle.std.proofs.lemmas.List.Sums.{sum_by-take-le}
use Rattle.ring_walk.specs.NearKept.{IsNearKept}
use Rattle.ring_walk.specs.NearPlanned.{NearPlanned}
use Rattle.ring_walk.proofs.NearPlanLemmas.{sum_more}
use Rattle.ring_walk.proofs.near_plan.NearPlan.bound.Goals as goal

pub overflow_add-sum : goal.overflow_add-sum
overflow_add-sum g c =
    let table = c.self.inside.counts in
    let kept = subst (λ p. IsNearKept g.row.W p table.tau table.parts table.counts.items) c.self.view_is c.self.invariant in
    let plans = kept.planned.plans in
    let leasts = c.args.self.now.plans.leasts in
    let number = plans.number in
    let more = sum_more leasts c.loop-radius.radius (omega arith) in
    let least = c.least-sum.ensures ∙ ap (λ (p : NearPlanned). get_or p.plans.leasts c.loop-radius.radius 0) c.self.view_is in
    omega (
      arith,
      sum_by-take-le (λ n. n) leasts (c.loop-radius.radius + 1),
      plans.small,
      more,
      least,
      c.loop-radius.invariant,
    )
