use Rattle.std.proofs.Common.{length, sym, ap, subst, ◌∙◌, arith}
use Rattle.shard_walk.specs.Planned.{IsPlanned, code_of_plan, parts_of}
use Rattle.shard_walk.proofs.KeepLemmas.{found_here, found_later}
use Rattle.shard_walk.proofs.plan.Plan.first_part.Goals as goal

pub returns-then-is_found : goal.returns-then-is_found
returns-then-is_found g c =
    let plan = subst (IsPlanned g.row.W) c.self.view_is c.self.invariant in
    let size = plan.choice.vector.size in
    let number = c.parts-parts.ensures.parts ∙ ap (λ p. length (parts_of p)) c.self.view_is in
    let here = found_here c.args.self.now (code_of_plan c.args.self.now c.args.code.now) c.loop-part.part size (omega arith)
    (sym c.is_found.ensures ∙ c.if-is_found.true) in
    let before = c.loop-part.invariant in
    omega arith

pub loop-part-preserved : goal.loop-part-preserved
loop-part-preserved g c =
    let plan = subst (IsPlanned g.row.W) c.self.view_is c.self.invariant in
    let size = plan.choice.vector.size in
    let number = c.parts-parts.ensures.parts ∙ ap (λ p. length (parts_of p)) c.self.view_is in
    let later = found_later c.args.self.now (code_of_plan c.args.self.now c.args.code.now) c.loop-part.part size (omega arith)
    (sym c.is_found.ensures ∙ c.if-is_found.false) in
    let before = c.loop-part.invariant in
    omega arith
