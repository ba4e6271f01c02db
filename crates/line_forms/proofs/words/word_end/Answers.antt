use Rattle.std.proofs.Common.{arith}
use Rattle.line_forms.proofs.WordLemmas.{one_more, at_space, at_end}
use Rattle.line_forms.proofs.words.word_end.Goals as goal

pub loop-end-preserved : goal.loop-end-preserved
loop-end-preserved c =
    (omega arith, one_more c.args.begun.now c.loop-end.end c.loop-end-test.true c.if-begun-end-ne32.true c.loop-end.invariant.1)

pub returns-else-begun-end-ne32-clause-splits : goal.returns-else-begun-end-ne32-clause-splits
returns-else-begun-end-ne32-clause-splits c =
    at_space c.args.begun.now c.loop-end.end c.loop-end-test.true c.if-begun-end-ne32.false c.loop-end.invariant.1

pub returns-after-loop-end-clause-splits : goal.returns-after-loop-end-clause-splits
returns-after-loop-end-clause-splits c = at_end c.args.begun.now c.loop-end.end c.loop-end-test.false c.loop-end.invariant.1
