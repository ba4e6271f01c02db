use Rattle.threshold_model.proofs.ChoiceLemmas.{row_counts_start, row_counts_rise, row_counts_few}
use Rattle.threshold_model.proofs.row_counting.counts_of_rows_are_lawful.Goals as goal

pub returns-clause-starts : goal.returns-clause-starts
returns-clause-starts c = row_counts_start

pub returns-clause-rises : goal.returns-clause-rises
returns-clause-rises c = row_counts_rise

pub returns-clause-most : goal.returns-clause-most
returns-clause-most c = row_counts_few
