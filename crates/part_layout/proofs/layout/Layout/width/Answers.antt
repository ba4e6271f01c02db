use Rattle.std.proofs.Common.{rules, arith}
use Rattle.part_layout.proofs.LayoutLemmas.{width_of_part}
use Rattle.part_layout.proofs.layout.Layout.width.Goals as goal

pub overflow_cast-result : goal.overflow_cast-result
overflow_cast-result c =
    let widths = width_of_part c.self.inside.bits c.self.inside.parts.items c.args.self.now c.args.part c.len.result c.index.result.now
    c.self.view_is (search rules) c.requires c.index.ensures (search rules) in
    record { fits = omega (arith, widths.1) }

pub returns-clause-some : goal.returns-clause-some
returns-clause-some c =
    (width_of_part c.self.inside.bits c.self.inside.parts.items c.args.self.now c.args.part c.len.result c.index.result.now
    c.self.view_is (search rules) c.requires c.index.ensures (search rules)).0

pub returns-clause-narrow : goal.returns-clause-narrow
returns-clause-narrow c =
    (width_of_part c.self.inside.bits c.self.inside.parts.items c.args.self.now c.args.part c.len.result c.index.result.now
    c.self.view_is (search rules) c.requires c.index.ensures (search rules)).1
