use Rattle.std.proofs.Common.{rules, ◌≡◌, ◌∙◌, [], ap, sym, length, arith}
use Rattle.part_layout.specs.Laid.{IsLaid, part_at}
use Rattle.part_layout.proofs.LayoutLemmas.{kept_at, part_below}
use Rattle.layout_search.proofs.arrangement.Arrangement.value.Goals as goal

pub value_at-requires : goal.value_at-requires
value_at-requires g c =
    let laid : IsLaid c.args.self.now = search rules in
    let bits : c.self.inside.bits ≡ c.args.self.now.bits = search rules in
    let own = kept_at c.self.inside.bits c.self.inside.parts.items c.args.self.now c.args.part c.index.result.now c.self.view_is
    c.requires.in_layout c.index.ensures in
    let same : c.as_slice.result.now ≡ part_at c.args.self.now c.args.part =
    c.as_slice.ensures.value ∙ sym own in
    let long = ap length same in
    let wide = (laid.layout.widths c.args.part [] c.requires.in_layout).1 in (
      search rules,
      (
        rw (same, bits) (part_below c.args.self.now.bits c.args.self.now.parts c.args.part c.requires.in_layout laid.layout),
        (omega arith, omega arith),
      ),
    )
