use Rattle.std.proofs.Common.{rules, ◌≡◌, ◌<◌, arith, length, refl}
use Rattle.std.proofs.lemmas.List.{take_all}
use Rattle.gph_codes.proofs.BitsLemmas.{IsBytes-zeros, one_word_written}
use Rattle.gph_codes.proofs.bytes.bytes_of.Goals as goal

pub loop-place-init : goal.loop-place-init
loop-place-init g c = (refl, IsBytes-zeros 64)

pub loop-place-preserved : goal.loop-place-preserved
loop-place-preserved g c =
    let inside : c.loop-place.place < length c.args.words.now = search rules in (
      one_word_written c.args.words.now c.loop-place.bytes c.put_word.new.bytes c.loop-place.place inside c.loop-place.invariant.0 c.put_word.ensures.bits,
      c.put_word.ensures.fit,
    )

pub returns-clause-bits : goal.returns-clause-bits
returns-clause-bits g c =
    let end : c.loop-place.place ≡ g.row.W = omega arith in
    let all = take_all g.row.W c.args.words.now (search rules) in
    rw (end, all) at c.loop-place.invariant.0

pub returns-clause-fit : goal.returns-clause-fit
returns-clause-fit g c = c.loop-place.invariant.1
