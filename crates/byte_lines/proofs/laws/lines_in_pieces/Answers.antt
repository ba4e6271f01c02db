-- The lines of two pieces, one after the other, are those of the pieces joined.
use Rattle.byte_lines.proofs.LinesLemmas.{ended_lines-append, unended-append}
use Rattle.byte_lines.proofs.laws.lines_in_pieces.Goals as goal

pub returns-clause-lines : goal.returns-clause-lines
returns-clause-lines c = ended_lines-append

pub returns-clause-rest : goal.returns-clause-rest
returns-clause-rest c = unended-append
