use Rattle.std.proofs.Common.{ap, ◌∙◌, sum_by}
use Rattle.layout_search.specs.Totals.{table_cost}
use Rattle.layout_search.proofs.SearchLemmas.{solvable, total_is}
use Rattle.layout_search.proofs.search.Search.cost.Goals as goal

pub total_cost-requires : goal.total_cost-requires
total_cost-requires g c =
    rw c.as_mut_slice.ensures.value
    (solvable c.args.self.now.layout c.args.self.now.rows.items c.args.self.now.samples.items c.args.self.now.tables.items c.requires.laid c.requires.task
    c.requires.counted c.least_cost_is_the_least.ensures.agrees)

pub returns-clause-cost : goal.returns-clause-cost
returns-clause-cost g c =
    c.total_cost.ensures.cost ∙ ap (sum_by table_cost) c.as_mut_slice.ensures.value
    ∙ total_is c.args.self.now.layout c.args.self.now.rows.items c.args.self.now.samples.items c.args.self.now.tables.items c.requires.laid
    c.requires.task c.requires.counted
    c.least_cost_is_the_least.ensures.agrees
