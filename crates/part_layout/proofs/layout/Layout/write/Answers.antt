use Rattle.std.proofs.Common.{length, arith}
use Rattle.part_layout.specs.Kept.{lists_of}
use Rattle.part_layout.proofs.LayoutLemmas.{layout_fits}
use Rattle.part_layout.proofs.layout.Layout.write.Goals as goal

pub put_parts-requires : goal.put_parts-requires
put_parts-requires c =
    rw c.as_slice.ensures.value
    (layout_fits c.self.inside.bits (length c.args.out.now) (lists_of c.self.inside.parts.items) c.self.invariant.is_laid.allowed.few (omega arith)
    c.self.invariant.is_laid.layout)
