use Rattle.std.proofs.Common.{◌≡◌, ◌+◌, ◌*◌, ◌≤◌, length, take, get_or, ap, ◌∙◌, sym, arith}
use Rattle.std.proofs.lemmas.List.{length-set, take_more_set}
use Rattle.hex.specs.Hex.{decode_pairs}
use Rattle.gph_codes.proofs.DigitsLemmas.{ok_bytes, no_pairs, pair_more, two_more}
use Rattle.gph_codes.proofs.bytes.put_pairs.Goals as goal

pub loop-place-init : goal.loop-place-init
loop-place-init c = (c.requires.pairs, no_pairs)

pub loop-place-preserved : goal.loop-place-preserved
loop-place-preserved c =
    let text = c.args.text.now in
    let place = c.loop-place.place in
    let bytes = c.loop-place.bytes in
    let here : place + 1 ≤ length bytes = omega arith in
    let room : 2 * place + 2 ≤ length text = omega (arith, here, c.loop-place.invariant.0) in
    let cut : 2 * (place + 1) ≡ 2 * place + 2 = omega arith in
    let byte = c.digit_value.result * 16 + c.digit_value-in-loop-place.result in
    let more = pair_more 0 (take (2 * place) text) (take place bytes) (get_or text (2 * place) 0) (get_or text (2 * place + 1) 0)
    c.digit_value.result c.digit_value-in-loop-place.result c.loop-place.invariant.1 c.digit_value.ensures.value
    c.digit_value-in-loop-place.ensures.value in (
      c.loop-place.invariant.0 ∙ ap (λ n. 2 * n) (sym (length-set bytes place byte)),
      ap (λ n. decode_pairs 0 (take n text)) cut ∙ ap (decode_pairs 0) (two_more text (2 * place) room) ∙ more
          ∙ ap ok_bytes (sym (take_more_set bytes place byte (omega (arith, here)))),
    )
