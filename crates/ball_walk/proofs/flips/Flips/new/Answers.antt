use Rattle.std.proofs.Common.{◌∙◌, ◌++◌, length, sym, ap}
use Rattle.ball_walk.specs.Flips.{flips}
use Rattle.ball_walk.proofs.FlipLemmas.{flips_none, flips_more, starts_none, starts_kept}
use Rattle.ball_walk.proofs.flips.Flips.new.Goals as goal

pub loop-ones-init : goal.loop-ones-init
loop-ones-init c = (
  c.in_ok-numbers.ensures.items ∙ sym (flips_none c.args.width),
  starts_none c.args.width c.in_ok-starts.starts.items c.in_ok-starts.ensures.items,
)

pub loop-ones-preserved : goal.loop-ones-preserved
loop-ones-preserved c = (
  c.in_ok-push_flips.ensures
      ∙ ap (λ l. l ++ flips c.args.width c.loop-ones.ones) c.loop-ones.invariant.0
      ∙ sym (flips_more c.args.width c.loop-ones.ones),
  starts_kept c.args.width c.loop-ones.ones (length c.as_slice.result.now) c.loop-ones.starts.items c.push.new.self.items c.loop-ones.invariant.1
      (ap length (c.as_slice.ensures.value ∙ c.loop-ones.invariant.0)) c.in_ok-push.ensures.items,
)
