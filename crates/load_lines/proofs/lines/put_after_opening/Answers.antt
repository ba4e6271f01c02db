use Rattle.std.proofs.Common.{rules, codes}
use Rattle.load_lines.proofs.LineLemmas.{time_put}
use Rattle.load_lines.proofs.lines.put_after_opening.Goals as goal

pub loop-time-preserved : goal.loop-time-preserved
loop-time-preserved c =
    let put = time_put (codes "next q 65536\n") c.loop-time.text.items _ c.loop-time._time 16 c.loop-time-test.true c.loop-time.invariant in
    search (rules, put, c.in_ok-put.ensures)
