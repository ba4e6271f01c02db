use Rattle.std.proofs.Common.{refl}
use Rattle.std.proofs.lemmas.Nat.{ones-le, xor_lt}
use Rattle.std.specs.Int.RustNames.{bit_xor}
use Rattle.ball_walk.specs.Balls.{value_distance}
use Rattle.ball_walk.proofs.distance.value_distance.Goals as goal

pub returns-clause-distance : goal.returns-clause-distance
unfolding value_distance
returns-clause-distance c = refl

pub returns-clause-few : goal.returns-clause-few
returns-clause-few c =
    ones-le 16 (bit_xor c.args.value c.args.other) (xor_lt 16 c.args.value c.args.other c.ranges.value.fits c.ranges.other.fits)
