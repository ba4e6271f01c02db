use Rattle.count_table.proofs.CopiesLemmas.{table_near, table_total}
use Rattle.count_table.proofs.laws.counts_are_those_of_a_list.Goals as goal

pub returns-clause-near : goal.returns-clause-near
returns-clause-near c = table_near

pub returns-clause-total : goal.returns-clause-total
returns-clause-total c = table_total
