use Rattle.std.proofs.lemmas.Nat.{ones-le, xor_lt}
use Rattle.gph_codes.proofs.DistanceLemmas.{ones_of_words}
use Rattle.gph_codes.proofs.distance.differing.Goals as goal

pub returns-clause-count : goal.returns-clause-count
returns-clause-count c = ones_of_words c.args.one c.args.other c.ranges.one.fits c.ranges.other.fits

pub returns-clause-bound : goal.returns-clause-bound
returns-clause-bound c = ones-le 64 _ (xor_lt 64 c.args.one c.args.other c.ranges.one.fits c.ranges.other.fits)
