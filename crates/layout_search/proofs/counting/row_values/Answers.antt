use Rattle.std.proofs.Common.{arith, get_or}
use Rattle.std.proofs.lemmas.List.{get_or_default}
use Rattle.part_layout.specs.Laid.{part_at}
use Rattle.layout_search.proofs.CountingLemmas.{value_more, values_all}
use Rattle.layout_search.proofs.counting.row_values.Goals as goal

pub loop-at-preserved : goal.loop-at-preserved
loop-at-preserved g c =
    let row = get_or c.args.rows.now c.loop-at.at c.index-rows-at.result in
    value_more g.row.W c.args.layout.now c.args.rows.now c.loop-at.values c.args.part c.loop-at.at c.value.result row (omega arith)
    (get_or_default c.args.rows.now c.loop-at.at c.index-rows-at.result row (omega arith))
    c.requires.codes c.value.ensures.value c.loop-at.invariant

pub returns : goal.returns
returns g c = values_all c.args.layout.now.bits c.args.rows.now c.loop-at.values (part_at c.args.layout.now c.args.part) c.loop-at.at (omega arith)
    c.loop-at.invariant
