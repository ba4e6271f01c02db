use Rattle.std.proofs.Common.{◌+◌, ◌≤◌, get_or, sym, ap, subst, ◌∙◌, arith}
use Rattle.std.proofs.lemmas.List.{get_or_read}
use Rattle.threshold_dp.specs.Radii.{RadiusPlans}
use Rattle.threshold_dp.proofs.RadiiLemmas.{least_at}
use Rattle.threshold_dp.proofs.radii.Radii.least.Goals as goal

pub returns : goal.returns
returns c =
    let own = c.self.inside in
    let within : c.args.radius ≤ own.tau = subst (λ (p : RadiusPlans). c.args.radius ≤ p.tau) (sym c.self.view_is) c.requires in
    get_or_read own.costs.items (c.args.radius + 1) c.index.result.now (omega (arith, c.self.invariant.costs_are)) c.index.ensures 0
    ∙ sym (least_at own.tau own.parts own.picks.items own.costs.items c.args.radius within)
    ∙ ap (λ (p : RadiusPlans). get_or p.leasts c.args.radius 0) c.self.view_is
