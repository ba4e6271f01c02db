use Rattle.std.proofs.Common.{rules, ◌<◌, get_or, arith}
use Rattle.part_layout.specs.Laid.{IsLaid}
use Rattle.part_layout.proofs.LayoutLemmas.{kept_at, part_inside}
use Rattle.part_layout.proofs.layout.Layout.position.Goals as goal

pub returns-clause-bound : goal.returns-clause-bound
returns-clause-bound c =
    let laid : IsLaid c.args.self.now = search rules in
    let own = kept_at c.self.inside.bits c.self.inside.parts.items c.args.self.now c.args.part c.index.result.now c.self.view_is
    c.requires.in_layout c.index.ensures in
    let below = part_inside c.args.self.now.bits c.args.self.now.parts c.args.part c.args.place c.index-2.result.now c.requires.in_layout
    c.requires.in_part laid.layout.in_range in
    let here : get_or c.index.result.now.items c.args.place c.index-2.result.now < c.args.self.now.bits = rw own at below in
    omega (arith, here)
