use Rattle.std.proofs.Common.{rules, ◌≡◌, ◌∙◌, [], ap, sym, length, arith}
use Rattle.std.specs.List.{range_with_len}
use Rattle.hamming_model.specs.Layouts.{part_value}
use Rattle.part_layout.specs.Laid.{IsLaid}
use Rattle.part_layout.proofs.LayoutLemmas.{part_below, shown_part}
use Rattle.part_layout.proofs.WordRunLemmas.{run_of_part}
use Rattle.part_layout.proofs.layout.Layout.value.Goals as goal

pub value_at-requires : goal.value_at-requires
value_at-requires g c =
    let laid : IsLaid c.args.self.now = search rules in
    let bits : c.self.inside.bits ≡ c.args.self.now.bits = search rules in
    let same = shown_part c.self.inside.bits c.self.inside.parts.items c.args.self.now c.args.part c.index.result.now c.as_slice-positions.result.now
    c.self.view_is c.requires.in_layout c.index.ensures c.as_slice-positions.ensures.value in
    let long = ap length same in
    let wide = (laid.layout.widths c.args.part [] c.requires.in_layout).1 in (
      search rules,
      (
        rw (same, bits) (part_below c.args.self.now.bits c.args.self.now.parts c.args.part c.requires.in_layout laid.layout),
        (omega arith, omega arith),
      ),
    )

pub run_value-requires : goal.run_value-requires
run_value-requires g c =
    let laid : IsLaid c.args.self.now = search rules in
    let same = shown_part c.self.inside.bits c.self.inside.parts.items c.args.self.now c.args.part c.index.result.now c.as_slice-positions.result.now
    c.self.view_is c.requires.in_layout c.index.ensures c.as_slice-positions.ensures.value in
    let run = run_of_part c.self.inside.bits c.self.inside.parts.items c.self.inside.runs.items c.args.self.now c.args.part c.in-Some.first _
    c.self.view_is c.self.invariant c.requires.in_layout c.index-2.ensures c.in-Some.is in
    let long = ap length same in
    let wide = laid.layout.widths c.args.part [] c.requires.in_layout in
    let in_word = run.0.in_word in (
      search rules,
      (omega (arith, wide.0), (omega (arith, wide.1), (omega (arith, in_word), omega (arith, run.1)))),
    )

pub returns-in-Some-clause-value : goal.returns-in-Some-clause-value
returns-in-Some-clause-value g c = λ code stands.
    let same = shown_part c.self.inside.bits c.self.inside.parts.items c.args.self.now c.args.part c.index.result.now c.as_slice-positions.result.now
    c.self.view_is c.requires.in_layout c.index.ensures c.as_slice-positions.ensures.value in
    let run = run_of_part c.self.inside.bits c.self.inside.parts.items c.self.inside.runs.items c.args.self.now c.args.part c.in-Some.first _
    c.self.view_is c.self.invariant c.requires.in_layout c.index-2.ensures c.in-Some.is in
    let long = ap length same in
    c.run_value.ensures.value c.args.self.now.bits code stands (omega (arith, run.1))
    ∙ ap (λ width. part_value code (range_with_len c.in-Some.first width)) long
    ∙ ap (λ positions. part_value code positions) (sym run.0.in_order)
