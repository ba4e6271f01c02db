use Rattle.command_line.proofs.FirstLemmas.{first_told}
use Rattle.command_line.proofs.laws.the_first_fault_is_told.Goals as goal

pub returns : goal.returns
returns c = first_told
