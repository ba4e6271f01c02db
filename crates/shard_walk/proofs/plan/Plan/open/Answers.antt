use Rattle.std.proofs.Common.{◌≤◌, sym, subst}
use Rattle.threshold_model.specs.Vectors.{IsChoice, IsLeast}
use Rattle.shard_probe.specs.Probed.{counts_round}
use Rattle.shard_walk.proofs.PlanLemmas.{plan_of_choice}
use Rattle.shard_walk.proofs.plan.Plan.open.Goals as goal

pub invariant_of-result : goal.invariant_of-result
invariant_of-result g c =
    let probe = c.in_ok-probe.probe in
    let entries = c.allocate-least.new.out.entries in
    let least = c.allocate-least.result in
    let number = c.parts-parts.ensures.parts in
    let near = subst (λ p. c.args.tau ≤ p.version.contents.layout.bits) (sym c.in_ok-probe.ensures) c.requires.near in
    plan_of_choice c.least_is_at_most_the_greatest_count.ensures.rows g.row.W probe c.parts-parts.ensures.probed c.args.tau near entries least
    (subst (λ n. IsChoice (counts_round probe.version probe.stored) c.args.tau n entries) number c.allocate-least.ensures.choice)
    (subst (λ n. IsLeast (counts_round probe.version probe.stored) c.args.tau n least) number c.allocate-least.ensures.least)
