use Rattle.std.proofs.Common.{◌≡◌, ◌-◌, ◌∙◌, length, sym, subst, arith}
use Rattle.exchange_model.specs.Pairs.{counts_beside, place_beside}
use Rattle.sample_table.specs.Sums.{AreLeastJoint, IsCountRow, counts_in, kept_rows}
use Rattle.sample_table.proofs.SumLemmas.{counted_row, row_counts_kept, row_kept, sums_more, sums_one}
use Rattle.sample_table.proofs.least_sums.least_sums.Goals as goal

pub copy_from_slice-requires : goal.copy_from_slice-requires
copy_from_slice-requires c =
    let last = c.args.number - 1 in
    let there = c.requires.there last (omega arith) in
    sym (counted_row c.args.rows.now (length c.args.sums.now) c.beside.result (place_beside c.args.pair last) c.index-rows-beside.result
    c.as_slice.result.now c.beside.ensures there c.index-rows-beside.is c.as_slice.ensures.value c.requires.rows).size

pub loop-part-init : goal.loop-part-init
loop-part-init c =
    let last = c.args.number - 1 in
    let width = length c.args.sums.now in
    let there = c.requires.there last (omega arith) in
    let after = c.copy_from_slice.ensures.after in
    let one : c.args.number - last ≡ 1 = omega arith in
    let is = after
    ∙ row_kept c.args.rows.now c.beside.result (place_beside c.args.pair last) c.index-rows-beside.result c.as_slice.result.now c.beside.ensures there
    c.index-rows-beside.is c.as_slice.ensures.value in (
      omega arith,
      subst (IsCountRow width) (sym after)
          (counted_row c.args.rows.now width c.beside.result (place_beside c.args.pair last) c.index-rows-beside.result c.as_slice.result.now
          c.beside.ensures there c.index-rows-beside.is c.as_slice.ensures.value c.requires.rows),
      sums_one (counts_beside (counts_in (kept_rows c.args.rows.now)) c.args.pair) last (c.args.number - last) width c.copy_from_slice.new.self one
          (λ units less. row_counts_kept c.args.rows.now c.args.pair last c.copy_from_slice.new.self is units),
    )

pub add_row-requires-clause-row : goal.add_row-requires-clause-row
add_row-requires-clause-row c =
    let next = c.loop-part.part - 1 in
    let inv = c.loop-part.invariant in
    let there = c.requires.there next (omega arith) in
    subst (λ n. IsCountRow n c.as_slice-in-loop-part.result.now) (sym inv.1.size)
    (counted_row c.args.rows.now (length c.args.sums.now) c.beside-in-loop-part.result (place_beside c.args.pair next)
    c.index-rows-beside-in-loop-part.result c.as_slice-in-loop-part.result.now c.beside-in-loop-part.ensures there
    c.index-rows-beside-in-loop-part.is c.as_slice-in-loop-part.ensures.value c.requires.rows)

pub loop-part-preserved : goal.loop-part-preserved
loop-part-preserved c =
    let next = c.loop-part.part - 1 in
    let width = length c.args.sums.now in
    let inv = c.loop-part.invariant in
    let there = c.requires.there next (omega arith) in
    let is = row_kept c.args.rows.now c.beside-in-loop-part.result (place_beside c.args.pair next) c.index-rows-beside-in-loop-part.result
    c.as_slice-in-loop-part.result.now c.beside-in-loop-part.ensures there c.index-rows-beside-in-loop-part.is
    c.as_slice-in-loop-part.ensures.value in (
      omega arith,
      subst (λ n. IsCountRow n c.add_row.new.sums) inv.1.size c.add_row.ensures.row,
      sums_more (counts_beside (counts_in (kept_rows c.args.rows.now)) c.args.pair) c.loop-part.part (c.args.number - c.loop-part.part)
          (c.args.number - next) next width c.as_slice-in-loop-part.result.now c.loop-part.sums c.add_row.new.sums (omega arith) (omega arith)
          (λ units less. row_counts_kept c.args.rows.now c.args.pair next c.as_slice-in-loop-part.result.now is units) inv.2
          (subst (λ n. AreLeastJoint n c.as_slice-in-loop-part.result.now c.loop-part.sums c.add_row.new.sums) inv.1.size c.add_row.ensures.joint),
    )
