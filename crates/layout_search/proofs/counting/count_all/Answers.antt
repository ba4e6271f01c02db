use Rattle.std.proofs.Common.{◌∙◌, arith}
use Rattle.layout_search.proofs.CountingLemmas.{partly_all, partly_more}
use Rattle.layout_search.proofs.counting.count_all.Goals as goal

pub loop-part-preserved : goal.loop-part-preserved
loop-part-preserved g c =
    let inv = c.loop-part.invariant in (
      partly_more c.args.layout.now.bits c.args.rows.now c.args.samples.now c.args.layout.now.parts c.loop-part.tables c.count_part.new.tables
          c.loop-part.part (omega arith) inv.0 c.count_part.ensures,
      c.count_part.auto.values ∙ inv.1,
    )

pub returns-clause-counted : goal.returns-clause-counted
returns-clause-counted g c =
    partly_all c.args.layout.now.bits c.args.rows.now c.args.samples.now c.args.layout.now.parts c.loop-part.tables c.loop-part.part (omega arith)
    c.loop-part.invariant.0
