use Rattle.std.proofs.Common.{arith}
use Rattle.version_draft.proofs.PartsLemmas.{tables_more}
use Rattle.version_draft.proofs.parts.tables_of_each.Goals as goal

pub loop-part-preserved : goal.loop-part-preserved
loop-part-preserved g c =
    rw c.in_ok-push.ensures.items
    (tables_more c.args.parts.now c.loop-part.tables.items c.loop-part.part-index c.part-item.result c.in_ok-table.table (omega arith) c.part-item.is
    c.in_ok-table.ensures c.loop-part.invariant)
