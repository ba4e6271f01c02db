use Rattle.std.proofs.Common.{◌≡◌, ◌≤◌, length, replicate, sym, ap, subst, ◌∙◌, arith}
use Rattle.std.proofs.lemmas.Nat.{pow_pos}
use Rattle.hamming_model.specs.declared.limits.TheConstants.{PARTS_MOST}
use Rattle.ball_walk.specs.Flips.{flipped_ball}
use Rattle.ring_walk.specs.NearPlanned.{near_parts}
use Rattle.ring_walk.specs.RingWalks.{StartsRings}
use Rattle.ring_walk.proofs.RingWalkLemmas.{rings_start}
use Rattle.ring_walk.proofs.ring_walk.RingWalk.start.Goals as goal

pub returns-clause-starts : goal.returns-clause-starts
unfolding flipped_ball
returns-clause-starts g c =
    let p = c.args.plan.now in
    let units : c.in_ok-units.units.items ≡ replicate (length (near_parts p)) 0 =
    c.in_ok-units.ensures.items_if_clones_equal (λ y same. same) ∙ ap (λ n. replicate n 0) c.parts-parts.ensures.parts in
    let left = c.ball.result in
    subst
    (λ us. StartsRings p (record { units = us; part = 0; width = left.width; ball = left.values; value = 0; next = 0; size = 0; begun = 0 }))
    (sym units) (rings_start g.row.W p c.parts-parts.ensures.plan (subst (λ n. n ≤ PARTS_MOST) c.parts-parts.ensures.parts c.parts-parts.ensures.few)
    left.width (c.ball.ensures.width ∙ c.flips.ensures) left.values c.ball.ensures.values)

pub flips-requires : goal.flips-requires
flips-requires g c =
    let some = c.parts-parts.ensures.plan.probed.version.laid.layout.some_part in
    omega arith

pub ball-requires-clause-in_width : goal.ball-requires-clause-in_width
ball-requires-clause-in_width g c = pow_pos c.flips.result.now
