use Rattle.part_layout.proofs.JudgeLemmas.{none_stands}
use Rattle.part_layout.proofs.judging.empty_table.Goals as goal

pub returns-clause-none : goal.returns-clause-none
returns-clause-none c = none_stands 256
