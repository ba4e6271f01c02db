use Rattle.std.proofs.Common.{rules}
use Rattle.load_lines.proofs.LineLemmas.{query_put}
use Rattle.load_lines.proofs.lines.put_queries.Goals as goal

pub loop-query-preserved : goal.loop-query-preserved
loop-query-preserved c =
    let put = query_put c.args.bits c.loop-query.query 32 c.loop-query.draws.state c.args.added.now c.loop-query.text.items _
    c.loop-query-test.true c.loop-query.invariant in
    search (rules, put)
