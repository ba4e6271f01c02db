-- The lemmas on postings.
use Rattle.search_model.specs.Reading.{rows_read}
use Rattle.search_model.proofs.PostingLemmas.{ball_reads, number_found}
use Rattle.search_model.proofs.reading_laws.balls_read_the_rows_found.Goals as goal

pub returns-clause-same : goal.returns-clause-same
returns-clause-same c = ball_reads

pub returns-clause-number : goal.returns-clause-number
returns-clause-number c = λ bits units rows part query lists codes is_query are_lists.
    number_found (rows_read lists part query units) rows part query units (ball_reads bits units rows part query lists codes is_query are_lists)
