use Rattle.std.proofs.Common.{◌≡◌, ◌<◌, ◌∙◌, length, take, get_or, decimal, arith}
use Rattle.part_layout.proofs.TextLemmas.{length-mark_before, next_piece, piece_short}
use Rattle.part_layout.proofs.pieces.put_part.Goals as goal

pub put-end-requires : goal.put-end-requires
put-end-requires c =
    let inside : c.loop-place.place < length c.args.part.now = omega arith in
    let small = c.requires.short c.loop-place.place 0 inside in
    let written : c.as_bytes.result.now ≡ decimal (get_or c.args.part.now c.loop-place.place 0) = c.as_bytes.ensures.value ∙ c.format.ensures.text in
    let short = piece_short (get_or c.args.part.now c.loop-place.place 0) c.as_bytes.result.now small written in
    let mark = length-mark_before c.loop-place.place 44 in
    omega arith

pub loop-place-preserved : goal.loop-place-preserved
loop-place-preserved c =
    let inside : c.loop-place.place < length c.args.part.now = omega arith in
    let small = c.requires.short c.loop-place.place 0 inside in
    let written : c.as_bytes.result.now ≡ decimal (get_or c.args.part.now c.loop-place.place 0) = c.as_bytes.ensures.value ∙ c.format.ensures.text in
    let short = piece_short (get_or c.args.part.now c.loop-place.place 0) c.as_bytes.result.now small written in
    let mark = length-mark_before c.loop-place.place 44 in (
      next_piece 44 decimal c.args.part.now c.loop-place.place 0 (take c.args.at c.args.out.now) (take c.loop-place.end c.loop-place.out)
          (take c.put_mark-end.result c.put_mark-end.new.out) (take c.put-end.result c.put-end.new.out) c.as_bytes.result.now
          inside written c.loop-place.invariant.0 c.put_mark-end.ensures.written c.put-end.ensures.written,
      omega arith,
    )
