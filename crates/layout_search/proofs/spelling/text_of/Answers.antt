use Rattle.std.proofs.Common.{◌≡◌, ℕ, ◌<◌, ◌∙◌, [], ap, length, get_or, arith}
use Rattle.std.specs.Global.{Vec}
use Rattle.std.proofs.lemmas.List.{length-map}
use Rattle.part_layout.specs.Kept.{lists_of}
use Rattle.part_layout.specs.Text.{part_text}
use Rattle.part_layout.proofs.LayoutLemmas.{own_part}
use Rattle.part_layout.proofs.TextLemmas.{next_piece}
use Rattle.layout_search.proofs.spelling.text_of.Goals as goal

pub loop-place-preserved : goal.loop-place-preserved
loop-place-preserved c =
    let sized = length-map c.args.parts.now (λ (part : Vec ℕ). part.items) in
    let kept : c.loop-place.place < length c.args.parts.now = omega arith in
    let inside : c.loop-place.place < length (lists_of c.args.parts.now) = omega arith in
    let own = own_part c.args.parts.now c.loop-place.place c.index-parts-place.result kept c.index-parts-place.is in
    let same : c.as_slice.result.now ≡ get_or (lists_of c.args.parts.now) c.loop-place.place [] = c.as_slice.ensures.value ∙ own in
    next_piece 47 part_text (lists_of c.args.parts.now) c.loop-place.place [] [] c.loop-place.text.items c.add_mark.new.text.items c.add_part.new.text.items
    (part_text c.as_slice.result.now) inside (ap part_text same) c.loop-place.invariant c.in_ok-add_mark.ensures c.in_ok-add_part.ensures
