use Rattle.std.proofs.Common.{◌≡◌, ◌<◌, [], ap, length, take, get_or, arith}
use Rattle.part_layout.specs.Kept.{lists_of}
use Rattle.part_layout.specs.Text.{part_text}
use Rattle.part_layout.proofs.PieceLemmas.{inside_lists, mark_room, own_positions, part_room, part_short, part_some}
use Rattle.part_layout.proofs.TextLemmas.{flat_step, length-mark_before, next_piece}
use Rattle.part_layout.proofs.pieces.put_parts.Goals as goal

pub put_mark-at-requires : goal.put_mark-at-requires
put_mark-at-requires c =
    let room = mark_room _ c.args.parts.now c.loop-place.place c.loop-place.at c.requires (omega arith) c.loop-place.invariant.1 in
    omega arith

pub put_part-at-requires-clause-room : goal.put_part-at-requires-clause-room
put_part-at-requires-clause-room c =
    let room = part_room _ c.args.parts.now c.loop-place.place c.loop-place.at c.put_mark-at.result c.as_slice.result.now c.requires (omega arith)
    c.loop-place.invariant.1 c.put_mark-at.ensures.end
    (own_positions c.args.parts.now c.loop-place.place c.index-parts-place.result c.as_slice.result.now (omega arith) c.index-parts-place.is
    c.as_slice.ensures.value) in
    omega arith

pub put_part-at-requires-clause-some : goal.put_part-at-requires-clause-some
put_part-at-requires-clause-some c =
    part_some _ c.args.parts.now c.loop-place.place c.as_slice.result.now c.requires (omega arith)
    (own_positions c.args.parts.now c.loop-place.place c.index-parts-place.result c.as_slice.result.now (omega arith) c.index-parts-place.is
    c.as_slice.ensures.value)

pub put_part-at-requires-clause-short : goal.put_part-at-requires-clause-short
put_part-at-requires-clause-short c =
    part_short _ c.args.parts.now c.loop-place.place c.as_slice.result.now c.requires (omega arith)
    (own_positions c.args.parts.now c.loop-place.place c.index-parts-place.result c.as_slice.result.now (omega arith) c.index-parts-place.is
    c.as_slice.ensures.value)

pub loop-place-preserved : goal.loop-place-preserved
loop-place-preserved c =
    let kept : c.loop-place.place < length c.args.parts.now = omega arith in
    let inside = inside_lists c.args.parts.now c.loop-place.place kept in
    let same : c.as_slice.result.now ≡ get_or (lists_of c.args.parts.now) c.loop-place.place [] =
    own_positions c.args.parts.now c.loop-place.place c.index-parts-place.result c.as_slice.result.now kept c.index-parts-place.is
    c.as_slice.ensures.value in
    let long = ap length same in
    let more = flat_step (lists_of c.args.parts.now) c.loop-place.place inside in
    let mark = length-mark_before c.loop-place.place 47 in (
      next_piece 47 part_text (lists_of c.args.parts.now) c.loop-place.place [] [] (take c.loop-place.at c.loop-place.out)
          (take c.put_mark-at.result c.put_mark-at.new.out) (take c.put_part-at.result c.put_part-at.new.out) (part_text c.as_slice.result.now)
          inside (ap part_text same) c.loop-place.invariant.0 c.put_mark-at.ensures.written c.put_part-at.ensures.text,
      omega arith,
    )
