use Rattle.std.proofs.Common.{◌-◌, ◌<◌, ◌^◌, ◌∙◌, ℕ, All, subst, arith}
use Rattle.ball_walk.specs.FlipTable.{flipped_from}
use Rattle.ball_walk.proofs.FlipLemmas.{starts_order}
use Rattle.ball_walk.proofs.FlippedLemmas.{begins_ring, ring_past}
use Rattle.ball_walk.proofs.flipped.Flipped.ring.Goals as goal

pub returns-then-apart-width-clause-values : goal.returns-then-apart-width-clause-values
returns-then-apart-width-clause-values c =
    let far = c.if-apart-width.true in
    let same = c.width-width.ensures.width in
    c.ball.ensures.values ∙ ring_past c.args.value c.args.flips.now c.args.apart (omega arith)

pub overflow_sub-result : goal.overflow_sub-result
overflow_sub-result c =
    let near = c.if-apart-width.false in
    let same = c.width-width.ensures.width in
    let order = starts_order c.args.flips.now c.args.apart (omega arith) in
    let from = c.start-at.ensures in
    let to = c.start.ensures in
    omega (arith, order.0)

pub invariant_of-result : goal.invariant_of-result
invariant_of-result c =
    (begins_ring c.args.value c.args.flips.now c.requires.in_width c.width-width.result c.args.apart c.start-at.result c.start.result
    c.width-width.ensures.width c.width-width.ensures.small c.if-apart-width.false c.start-at.ensures c.start.ensures).in_range

pub returns-clause-values : goal.returns-clause-values
returns-clause-values c =
    (begins_ring c.args.value c.args.flips.now c.requires.in_width c.width-width.result c.args.apart c.start-at.result c.start.result
    c.width-width.ensures.width c.width-width.ensures.small c.if-apart-width.false c.start-at.ensures c.start.ensures).values_are

pub returns-clause-in_width : goal.returns-clause-in_width
returns-clause-in_width c =
    let P : ℕ → Type 0 = λ w. All (λ other. other < 2 ^ w) (flipped_from c.args.value c.width-width.result c.start-at.result (c.start.result -
    c.start-at.result)) in
    subst P c.width-width.ensures.width
    ((begins_ring c.args.value c.args.flips.now c.requires.in_width c.width-width.result c.args.apart c.start-at.result c.start.result
    c.width-width.ensures.width c.width-width.ensures.small c.if-apart-width.false c.start-at.ensures c.start.ensures).below)
