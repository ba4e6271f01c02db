use Rattle.std.proofs.Common.{◌≡◌, ◌-◌, ◌++◌}
use Rattle.load_lines.specs.Lines.{query_lines}
use Rattle.load_lines.proofs.lines.put_queries.Given as goal

abbrev pub invariant-loop-query : goal.invariant-loop-query
invariant-loop-query l =
    l.text.items ++ query_lines l.bits l.added (32 - l.query) l.query l.draws.state
    ≡ l.fn.text.items ++ query_lines l.bits l.added 32 0 l.fn.draws.state
