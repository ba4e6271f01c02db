use Rattle.std.proofs.Common.{rules}
use Rattle.load_lines.proofs.LineLemmas.{addition_put}
use Rattle.load_lines.proofs.lines.put_additions.Goals as goal

pub loop-key-preserved : goal.loop-key-preserved
loop-key-preserved c =
    let put = addition_put c.args.bits c.loop-key.key c.args.added.now c.loop-key.text.items _ c.loop-key-test.true c.loop-key.invariant in
    search (rules, put)
