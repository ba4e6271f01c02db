use Rattle.std.proofs.Common.{◌≡◌, ◌+◌, ◌^◌, ◌<◌, ◌∙◌, suc, ap, length, get_or, slice_index, arith}
use Rattle.std.proofs.Math.Nat.{pow-suc}
use Rattle.part_layout.proofs.LayoutLemmas.{value_step}
use Rattle.layout_search.proofs.places.value_at.Goals as goal

pub loop-position-preserved : goal.loop-position-preserved
loop-position-preserved g c =
    let inside : c.loop-position.position-index < length c.args.part.now = omega arith in
    let read : c.from.result ≡ get_or c.args.part.now c.loop-position.position-index 0 = omega arith in
    let one_more : c.loop-position.position-index + 1 ≡ suc c.loop-position.position-index = omega arith in
    let up = ap (λ n. 2 ^ n) one_more in
    let twice = pow-suc 2 c.loop-position.position-index in (
      λ x stands.
          value_step x c.args.part.now c.loop-position.position-index c.loop-position.value c.bit_at.result inside
          (c.loop-position.invariant.0 x stands) (c.bit_at.ensures.bit x stands ∙ ap (λ position. slice_index x position) read),
      omega arith,
    )
