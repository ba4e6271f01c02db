use Rattle.std.proofs.Common.{◌≡◌, ◌*◌, ◌≤◌, take, sum_by}
use Rattle.layout_search.specs.Totals.{table_cost}
use Rattle.layout_search.proofs.total.total_cost.Given as goal

abbrev pub invariant-loop-at : goal.invariant-loop-at
invariant-loop-at l = (l.tables ≡ l.fn.tables) × (l.total ≡ sum_by table_cost (take l.at l.fn.tables)) × (l.total ≤ l.at * 64)
