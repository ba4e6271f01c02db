use Rattle.gph_codes.proofs.MaskLemmas.{ones_of_words_under}
use Rattle.gph_codes.proofs.distance.differing_under.Goals as goal

pub returns-clause-count : goal.returns-clause-count
returns-clause-count c =
    ones_of_words_under c.args.mask c.args.one c.args.other c.ranges.mask.fits c.ranges.one.fits c.ranges.other.fits
