use Rattle.count_table.proofs.CopiesLemmas.{width_of, table_empty, table_added, table_removed, table_present, table_one_by_one}
use Rattle.count_table.proofs.laws.changes_follow_a_list.Goals as goal

pub returns-clause-width : goal.returns-clause-width
returns-clause-width c = width_of

pub returns-clause-empty : goal.returns-clause-empty
returns-clause-empty c = table_empty

pub returns-clause-added : goal.returns-clause-added
returns-clause-added c = table_added

pub returns-clause-removed : goal.returns-clause-removed
returns-clause-removed c = table_removed

pub returns-clause-present : goal.returns-clause-present
returns-clause-present c = table_present

pub returns-clause-one_by_one : goal.returns-clause-one_by_one
returns-clause-one_by_one c = table_one_by_one
