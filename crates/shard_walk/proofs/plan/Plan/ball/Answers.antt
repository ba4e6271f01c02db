use Rattle.std.proofs.Common.{◌≡◌, ◌<◌, ℕ, ℤ, pos, negsuc, List, length, get_or, ap, sym, ◌∙◌, subst, arith, rules, w32, FitsSigned}
use Rattle.std.proofs.lemmas.Int.{to_z-of_z}
use Rattle.std.proofs.lemmas.List.{get_or_default}
use Rattle.ball_walk.specs.Flips.{flipped_ball}
use Rattle.hamming_model.specs.Layouts.{part_value}
use Rattle.threshold_model.specs.Vectors.{units_of}
use Rattle.shard_probe.specs.Probed.{code_in, part_in}
use Rattle.shard_walk.specs.Planned.{Planned, parts_of}
use Rattle.shard_walk.specs.Walks.{ball_of}
use Rattle.shard_walk.proofs.plan.Plan.ball.Goals as goal

pub returns-clause-values : goal.returns-clause-values
returns-clause-values g c =
    let part = c.args.part in
    let own = c.self.inside in
    let P : Planned → Type 0 = λ p. part < length (parts_of p) in
    let fits : FitsSigned w32 (get_or c.entries.result.now part (pos 0)) = search rules in
    let less = subst P (sym c.self.view_is) c.requires in
    let size = c.self.invariant.choice.vector.size in
    let within : part < length own.thresholds.entries = omega arith in
    let threshold = to_z-of_z w32 (get_or c.entries.result.now part (pos 0)) fits
    ∙ ap (λ ts. get_or ts part (pos 0)) c.entries.ensures.entries
    ∙ get_or_default own.thresholds.entries part (pos 0) (negsuc 0) within in
    let positions = part_in own.probe.version part in
    let near : ℤ → List ℕ = λ t.
    flipped_ball (part_value (code_in own.probe.version own.probe.stored) positions) (length positions) (units_of t) in
    c.ball.ensures.values ∙ ap near threshold ∙ ap (λ p. ball_of p part) c.self.view_is
