use Rattle.std.proofs.Common.{◌+◌, ◌≤◌, [], map, get_or, sym, ap, subst, ◌∙◌}
use Rattle.threshold_model.specs.Splits.{threshold_of}
use Rattle.threshold_dp.specs.Table.{pick_rows, follow}
use Rattle.threshold_dp.specs.Radii.{RadiusPlans}
use Rattle.threshold_dp.proofs.RadiiLemmas.{vector_at}
use Rattle.threshold_dp.proofs.radii.Radii.choose.Goals as goal

pub returns-clause-entries : goal.returns-clause-entries
returns-clause-entries c =
    let own = c.self.inside in
    let within : c.args.radius ≤ own.tau = subst (λ (p : RadiusPlans). c.args.radius ≤ p.tau) (sym c.self.view_is) c.requires.within in
    c.read_out.ensures.entries
    ∙ ap (λ picks. map threshold_of (follow (pick_rows (own.tau + 2) own.parts picks) (c.args.radius + 1))) c.as_slice.ensures.value
    ∙ sym (vector_at own.tau own.parts own.picks.items own.costs.items c.args.radius within)
    ∙ ap (λ (p : RadiusPlans). get_or p.vectors c.args.radius []) c.self.view_is
