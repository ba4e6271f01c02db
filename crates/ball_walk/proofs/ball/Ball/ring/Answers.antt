-- The values that are left are those of the ring, and none where it is farther than the width.
use Rattle.std.proofs.Common.{◌<◌, ◌^◌, List, ℕ, All, sym, ◌∙◌, subst}
use Rattle.std.proofs.lemmas.List.{append-nil}
use Rattle.ball_walk.specs.Balls.{ball}
use Rattle.ball_walk.specs.Walk.{ring_from}
use Rattle.ball_walk.proofs.BallLemmas.{ring_far, ring_from_start, ring_below}
use Rattle.ball_walk.proofs.ball.Ball.ring.Goals as goal

pub returns-then-apart-width-clause-values : goal.returns-then-apart-width-clause-values
unfolding ball
returns-then-apart-width-clause-values c =
    c.new.ensures.values ∙ sym (ring_far c.args.value c.args.width c.args.apart c.requires.in_width c.if-apart-width.true)

pub returns-clause-values : goal.returns-clause-values
returns-clause-values c =
    append-nil (ring_from c.args.value c.args.width c.args.apart 0) ∙ ring_from_start c.args.value c.args.width c.args.apart

pub returns-clause-in_width : goal.returns-clause-in_width
returns-clause-in_width c =
    let P : List ℕ → Type 0 = All (λ other. other < 2 ^ c.args.width) in
    subst P
    (sym (append-nil (ring_from c.args.value c.args.width c.args.apart 0) ∙ ring_from_start c.args.value c.args.width c.args.apart))
    (ring_below c.args.value c.args.width c.args.apart)
