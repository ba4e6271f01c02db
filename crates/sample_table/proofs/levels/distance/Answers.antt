use Rattle.std.proofs.Common.{refl, ◌<◌, ◌^◌, arith}
use Rattle.std.proofs.lemmas.Nat.{ones-le, xor_lt}
use Rattle.std.specs.Int.RustNames.{bit_xor}
use Rattle.ball_walk.specs.Balls.{value_distance}
use Rattle.sample_table.proofs.levels.distance.Goals as goal

pub returns-clause-distance : goal.returns-clause-distance
unfolding value_distance
returns-clause-distance c = refl

pub returns-clause-few : goal.returns-clause-few
returns-clause-few c =
    let small : c.args.other < 2 ^ 16 = omega arith in
    ones-le 16 (bit_xor c.args.other c.args.value) (xor_lt 16 c.args.other c.args.value small c.ranges.value.fits)
