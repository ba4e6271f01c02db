use Rattle.load_model.proofs.QuitLemmas.{beginning_goes_on, whole_goes_on}
use Rattle.load_model.proofs.laws.no_line_of_a_load_quits.Goals as goal

pub returns-clause-beginning : goal.returns-clause-beginning
returns-clause-beginning c = beginning_goes_on

pub returns-clause-whole : goal.returns-clause-whole
returns-clause-whole c = whole_goes_on
