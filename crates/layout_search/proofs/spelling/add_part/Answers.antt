use Rattle.std.proofs.Common.{◌≡◌, ◌<◌, ◌∙◌, length, get_or, decimal, arith}
use Rattle.part_layout.proofs.TextLemmas.{next_piece}
use Rattle.layout_search.proofs.spelling.add_part.Goals as goal

pub loop-place-preserved : goal.loop-place-preserved
loop-place-preserved c =
    let inside : c.loop-place.place < length c.args.part.now = omega arith in
    let written : c.as_bytes.result.now ≡ decimal (get_or c.args.part.now c.loop-place.place 0) = c.as_bytes.ensures.value ∙ c.format.ensures.text in
    next_piece 44 decimal c.args.part.now c.loop-place.place 0 c.args.text.now.items c.loop-place.text.items c.add_mark.new.text.items c.add.new.text.items
    c.as_bytes.result.now inside written c.loop-place.invariant c.in_ok-add_mark.ensures c.in_ok-add.ensures
