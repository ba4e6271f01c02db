use Rattle.std.proofs.Common.{ℕ, ◌<◌, ◌^◌, List, All, rules, ◌∙◌, sym, subst, w32, FitsSigned}
use Rattle.std.proofs.lemmas.Int.{to_z-of_z}
use Rattle.ball_walk.specs.Balls.{radius_units}
use Rattle.ball_walk.proofs.BallLemmas.{rest_of_ball, ball_cut, ball_below}
use Rattle.ball_walk.proofs.ball.Ball.new.Goals as goal

pub returns-clause-values : goal.returns-clause-values
returns-clause-values c =
    let fits : FitsSigned w32 c.args.radius = search rules in
    rw (c.distances_within-left.ensures, to_z-of_z w32 c.args.radius fits)
    (rest_of_ball c.args.value c.args.width _ ∙ ball_cut c.args.value c.args.width (radius_units c.args.radius) c.requires.in_width)

pub returns-clause-in_width : goal.returns-clause-in_width
returns-clause-in_width c =
    let P : List ℕ → Type 0 = All (λ other. other < 2 ^ c.args.width) in
    subst P (sym (rest_of_ball c.args.value c.args.width c.distances_within-left.result)) (ball_below c.args.value c.args.width c.distances_within-left.result)
