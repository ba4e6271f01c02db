use Rattle.command_line.proofs.LawLemmas.{either_form}
use Rattle.command_line.proofs.laws.options_in_either_form.Goals as goal

pub returns : goal.returns
returns c = either_form
