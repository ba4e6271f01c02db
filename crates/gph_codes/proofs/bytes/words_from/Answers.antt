use Rattle.std.proofs.Common.{◌≡◌, ◌<◌, arith, length, refl}
use Rattle.std.proofs.lemmas.List.{take_all}
use Rattle.gph_codes.proofs.BitsLemmas.{IsWords-replicate, IsWords-set, one_word_more}
use Rattle.gph_codes.proofs.bytes.words_from.Goals as goal

pub loop-place-init : goal.loop-place-init
loop-place-init g c = (refl, IsWords-replicate g.row.W)

pub loop-place-preserved : goal.loop-place-preserved
loop-place-preserved g c =
    let inside : c.loop-place.place < length c.loop-place.words = omega arith in (
      one_word_more c.loop-place.words c.args.bytes.now c.loop-place.place c.word_at.result inside c.loop-place.invariant.0 c.word_at.ensures,
      IsWords-set g.row.W c.loop-place.words c.loop-place.place c.word_at.result c.loop-place.invariant.1 c.word_at.type_inv,
    )

pub returns-clause-words : goal.returns-clause-words
returns-clause-words g c = c.loop-place.invariant.1

pub returns-clause-bits : goal.returns-clause-bits
returns-clause-bits g c =
    let end : c.loop-place.place ≡ g.row.W = omega arith in
    let all = take_all g.row.W c.loop-place.words (omega arith) in
    rw (end, all) at c.loop-place.invariant.0
