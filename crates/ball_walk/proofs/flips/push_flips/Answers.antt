use Rattle.std.proofs.Common.{◌≡◌, ◌∙◌, ◌++◌, ◌∷◌, [], ◌==◌, ◌^◌, filter, ap, arith}
use Rattle.std.specs.Int.RustNames.{count_ones}
use Rattle.std.specs.List.{range_with_len}
use Rattle.ball_walk.specs.Flips.{flips}
use Rattle.ball_walk.specs.Balls.{values}
use Rattle.ball_walk.proofs.FlipLemmas.{flips_pushed, flips_passed}
use Rattle.ball_walk.proofs.flips.push_flips.Goals as goal
use Rattle.ball_walk.proofs.flips.push_flips.Goals.{then-number-ones+in_ok-push, else-number-ones}

pub loop-number-preserved : goal.loop-number-preserved
loop-number-preserved c =
    elim c.if-number-ones.branch [
      | then-number-ones+in_ok-push w ↦
          rw w.numbers-is
          (w.in_ok-push.ensures.items ∙ ap (λ l. l ++ c.loop-number.number ∷ []) c.loop-number.invariant
          ∙ flips_pushed c.args.numbers.now.items c.args.ones c.loop-number.number w.if-number-ones.true)
      | else-number-ones w ↦
          rw w.numbers-is
          (c.loop-number.invariant ∙ flips_passed c.args.numbers.now.items c.args.ones c.loop-number.number w.if-number-ones.false)
    ]

pub returns : goal.returns
unfolding flips values
returns c =
    let all : c.loop-number.number ≡ 2 ^ c.args.width =
    (let end = c.loop-number-test.false in let within = c.loop-number.auto.number-end in let size = c.bound_of-number-end.ensures in omega arith) in
    c.loop-number.invariant
    ∙ ap (λ n. c.args.numbers.now.items ++ filter (λ flip. count_ones flip == c.args.ones) (range_with_len 0 n)) all
