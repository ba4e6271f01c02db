use Rattle.std.proofs.Common.{◌≡◌}
use Rattle.ball_walk.specs.FlipTable.{flips_below, AreStarts}
use Rattle.ball_walk.proofs.flips.Flips.new.Given as goal

abbrev pub invariant-loop-ones : goal.invariant-loop-ones
invariant-loop-ones l =
    (l.numbers.items ≡ flips_below l.width l.ones) × AreStarts l.width l.ones l.starts.items
