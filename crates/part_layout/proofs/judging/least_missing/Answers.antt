use Rattle.std.proofs.Common.{◌≡◌, ◌<◌, ◌∙◌, sym, true, false, slice_index_or, rules, arith}
use Rattle.part_layout.proofs.JudgeLemmas.{missing_here, missing_later}
use Rattle.part_layout.proofs.judging.least_missing.Goals as goal

pub returns-then-not-table-position : goal.returns-then-not-table-position
returns-then-not-table-position c = λ numbers tells.
    let inside : c.loop-position.position < c.args.bits = omega arith in
    let empty : slice_index_or c.args.table.now c.loop-position.position false ≡ false = search rules in
    sym
    (c.loop-position.invariant numbers tells
    ∙ missing_here c.loop-position.position c.args.bits numbers inside (sym (tells c.loop-position.position (omega arith)) ∙ empty))

pub loop-position-preserved : goal.loop-position-preserved
loop-position-preserved c = λ numbers tells.
    let inside : c.loop-position.position < c.args.bits = omega arith in
    let marked : slice_index_or c.args.table.now c.loop-position.position false ≡ true = search rules in
    c.loop-position.invariant numbers tells
    ∙ missing_later c.loop-position.position c.args.bits numbers inside (sym (tells c.loop-position.position (omega arith)) ∙ marked)
