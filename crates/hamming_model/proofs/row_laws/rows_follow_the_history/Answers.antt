-- The lemmas on histories.
use Rattle.hamming_model.proofs.RowLemmas.{rows_of_append, codes_of_history, length_inserted, rows_ascend}
use Rattle.hamming_model.proofs.row_laws.rows_follow_the_history.Goals as goal

pub returns : goal.returns
returns c = record { appended = rows_of_append; codes = codes_of_history; ascending = rows_ascend; longer = length_inserted }
