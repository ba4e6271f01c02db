use Rattle.gph_codes.proofs.MaskLemmas.{zero_words}
use Rattle.gph_codes.proofs.code.Code.zeros.Goals as goal

pub returns : goal.returns
returns g c = zero_words g.row.W
