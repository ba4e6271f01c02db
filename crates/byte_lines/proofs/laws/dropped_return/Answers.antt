-- What is dropped at the end of a line.
use Rattle.byte_lines.proofs.LinesLemmas.{without_return-dropped, without_return-kept}
use Rattle.byte_lines.proofs.laws.dropped_return.Goals as goal

pub returns-clause-dropped : goal.returns-clause-dropped
returns-clause-dropped c = without_return-dropped

pub returns-clause-stays : goal.returns-clause-stays
returns-clause-stays c = without_return-kept
