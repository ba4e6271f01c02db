use Rattle.std.proofs.lemmas.List.{length-take-le}
use Rattle.gph_codes.proofs.DigitsLemmas.{spells_from}
use Rattle.gph_codes.proofs.bytes.spell.Goals as goal

pub returns : goal.returns
returns c =
    spells_from c.args.text.now c.args.bytes.now c.decode_to_slice.new.out c.args.number _ c.decode_to_slice.result c.requires.pairs
    (length-take-le c.args.number c.args.bytes.now c.requires.room) c.decode_to_slice.ensures.value
