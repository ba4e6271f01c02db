use Rattle.std.proofs.Common.{◌/◌, ◌%◌, get_or, set, ap, ◌∙◌, arith}
use Rattle.gph_codes.proofs.BitsLemmas.{IsWords-set}
use Rattle.gph_codes.proofs.MaskLemmas.{word_set, word_set_fits, word_bits_set}
use Rattle.gph_codes.proofs.code.Code.set.Goals as goal

pub invariant_of-self : goal.invariant_of-self
invariant_of-self g c =
    IsWords-set g.row.W c.self.inside.words (c.args.position / 64) _ c.self.invariant
    (word_set_fits (get_or c.self.inside.words (c.args.position / 64) 0) (c.args.position % 64) (omega arith))

pub returns : goal.returns
returns g c =
    let size = c.self.invariant.size in
    word_bits_set c.self.inside.words c.args.position _ (omega arith)
    (word_set (get_or c.self.inside.words (c.args.position / 64) 0) (c.args.position % 64) (omega arith))
    ∙ ap (λ bits. set bits c.args.position 1) c.self.view_is
