-- At the end of either code nothing of the distance is left.
use Rattle.std.proofs.Common.{arith}
use Rattle.hamming_model.proofs.PlainLemmas.{none_left}
use Rattle.hamming_model.proofs.plain.differences.Goals as goal

pub returns : goal.returns
returns c = record { count = omega (arith, none_left c.args.code.now c.args.query.now c.loop-position.position (omega arith)) }
