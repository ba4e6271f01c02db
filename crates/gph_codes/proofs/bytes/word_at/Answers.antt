use Rattle.gph_codes.proofs.BitsLemmas.{word_of_bytes}
use Rattle.gph_codes.proofs.bytes.word_at.Goals as goal

pub returns : goal.returns
returns c = word_of_bytes c.args.bytes.now c.args.at c.from_be_bytes.result c.requires (λ i. (c.type_inv.bytes i).fits) c.from_be_bytes.ensures
