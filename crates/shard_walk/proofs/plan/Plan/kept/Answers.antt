use Rattle.std.proofs.Common.{sym, ap, ◌∙◌, arith}
use Rattle.hamming_model.specs.Codes.{distance}
use Rattle.shard_walk.specs.Planned.{code_of_plan, planned_query}
use Rattle.shard_walk.proofs.KeepLemmas.{kept_first, kept_far, kept_later}
use Rattle.shard_walk.proofs.plan.Plan.kept.Goals as goal

pub returns-then-distance-self : goal.returns-then-distance-self
returns-then-distance-self g c =
    let at = c.distance-distance.ensures ∙ ap (λ p. distance (code_of_plan p c.args.code.now) (planned_query p)) c.self.view_is in
    let far = c.if-distance-self.true in
    let tau = ap (λ p. p.tau) c.self.view_is in
    kept_far c.args.self.now c.args.part c.args.key c.distance-distance.result (code_of_plan c.args.self.now c.args.code.now) at (omega arith)

pub returns-then-first_part-part : goal.returns-then-first_part-part
returns-then-first_part-part g c =
    kept_later c.args.self.now c.args.part c.args.key c.distance-distance.result (code_of_plan c.args.self.now c.args.code.now)
    (c.distance-distance.ensures ∙ ap (λ p. distance (code_of_plan p c.args.code.now) (planned_query p)) c.self.view_is)
    (λ e. c.if-first_part-part.true (c.first_part.ensures ∙ e))

pub returns : goal.returns
returns g c =
    let at = c.distance-distance.ensures ∙ ap (λ p. distance (code_of_plan p c.args.code.now) (planned_query p)) c.self.view_is in
    let near = c.if-distance-self.false in
    let tau = ap (λ p. p.tau) c.self.view_is in
    kept_first c.args.self.now c.args.part c.args.key c.distance-distance.result (code_of_plan c.args.self.now c.args.code.now) at (omega arith)
    (sym c.first_part.ensures ∙ c.if-first_part-part.false)
