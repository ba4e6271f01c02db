use Rattle.std.proofs.Common.{get_or, arith}
use Rattle.part_layout.proofs.CursorLemmas.{no_mark, plain_more}
use Rattle.part_layout.proofs.cursor.first_mark.Goals as goal

pub loop-end-preserved : goal.loop-end-preserved
loop-end-preserved c = (
  omega arith,
  plain_more c.args.text.now c.loop-end.end (omega arith) c.loop-end.invariant.1
      (no_mark (get_or c.args.text.now c.loop-end.end 0) (omega arith) (omega arith)),
)
