use Rattle.std.proofs.Common.{◌≡◌, ◌+◌, ◌<◌, ◌^◌, ℕ, All, min, subst, rules, w32, FitsSigned}
use Rattle.std.proofs.lemmas.Int.{to_z-of_z}
use Rattle.ball_walk.specs.Balls.{radius_units}
use Rattle.ball_walk.specs.FlipTable.{flipped_from}
use Rattle.ball_walk.proofs.FlippedLemmas.{begins_ball}
use Rattle.ball_walk.proofs.flipped.Flipped.ball.Goals as goal

pub invariant_of-result : goal.invariant_of-result
invariant_of-result c =
    (begins_ball c.args.value c.args.flips.now c.requires.in_width c.width-width.result _ c.distances_within.result c.start-left.result
    c.width-width.ensures.width c.width-width.ensures.small c.distances_within.ensures c.start-left.ensures).in_range

pub returns-clause-values : goal.returns-clause-values
returns-clause-values c =
    let fits : FitsSigned w32 c.args.radius = search rules in
    let units : c.distances_within.result ≡ min (radius_units c.args.radius) (c.width-width.result + 1) =
    cc (c.distances_within.ensures, to_z-of_z w32 c.args.radius fits) in
    (begins_ball c.args.value c.args.flips.now c.requires.in_width c.width-width.result (radius_units c.args.radius) c.distances_within.result
    c.start-left.result c.width-width.ensures.width c.width-width.ensures.small units c.start-left.ensures).values_are

pub returns-clause-in_width : goal.returns-clause-in_width
returns-clause-in_width c =
    let P : ℕ → Type 0 = λ w. All (λ other. other < 2 ^ w) (flipped_from c.args.value c.width-width.result 0 c.start-left.result) in
    subst P c.width-width.ensures.width
    ((begins_ball c.args.value c.args.flips.now c.requires.in_width c.width-width.result _ c.distances_within.result c.start-left.result
    c.width-width.ensures.width c.width-width.ensures.small c.distances_within.ensures c.start-left.ensures).below)
