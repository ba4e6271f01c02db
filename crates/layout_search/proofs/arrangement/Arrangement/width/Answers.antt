use Rattle.std.proofs.Common.{rules, arith}
use Rattle.part_layout.proofs.LayoutLemmas.{width_of_part}
use Rattle.layout_search.proofs.arrangement.Arrangement.width.Goals as goal

pub overflow_cast-result : goal.overflow_cast-result
overflow_cast-result c =
    let widths = width_of_part c.self.inside.bits c.self.inside.parts.items c.args.self.now c.args.part c.len.result c.index.result.now
    c.self.view_is (search rules) c.requires c.index.ensures (search rules) in
    record { fits = omega (arith, widths.1) }
