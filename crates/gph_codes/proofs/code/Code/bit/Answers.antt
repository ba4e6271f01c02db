use Rattle.std.proofs.Common.{arith}
use Rattle.gph_codes.proofs.BitsLemmas.{bit_told}
use Rattle.gph_codes.proofs.code.Code.bit.Goals as goal

pub returns : goal.returns
returns g c = bit_told c.self.inside.words c.args.self.now c.args.position (omega arith) c.self.view_is
