use Rattle.std.proofs.Common.{◌+◌, sym, ap, ◌∙◌, subst, arith, rules}
use Rattle.shard_walk.specs.Walks.{Place, IsWalkPlace, PassesPart, part_begun}
use Rattle.shard_walk.proofs.WalkLemmas.{more_parts, passes}
use Rattle.shard_walk.proofs.walk.Walk.pass_part.Goals as goal

pub overflow_add-self-inside : goal.overflow_add-self-inside
overflow_add-self-inside g c =
    let few = c.requires.place.few_parts in
    let here = c.requires.place.part in
    let at = ap (λ (w : Place). w.part) c.self.view_is in
    omega arith

pub at_part-requires : goal.at_part-requires
at_part-requires g c =
    let more = more_parts c.args.plan.now c.args.self.now c.requires.place c.requires.list_done c.requires.ball_done c.requires.some_left in
    let at = ap (λ (w : Place). w.part) c.self.view_is in
    (search rules, omega arith)

pub returns : goal.returns
returns g c =
    let more = more_parts c.args.plan.now c.args.self.now c.requires.place c.requires.list_done c.requires.ball_done c.requires.some_left in
    let is = c.self-2.view_is ∙ c.at_part.ensures.part ∙ ap (λ (w : Place). part_begun c.args.plan.now (w.part + 1)) c.self.view_is in
    let place = subst (IsWalkPlace c.args.plan.now)
    (c.at_part.ensures.part ∙ ap (λ (w : Place). part_begun c.args.plan.now (w.part + 1)) c.self.view_is)
    c.at_part.ensures.place in
    subst (PassesPart c.args.plan.now c.args.self.now) (sym is)
    (passes c.args.plan.now c.args.self.now c.requires.place c.requires.list_done c.requires.ball_done more place)
