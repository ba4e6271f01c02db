use Rattle.load_model.proofs.LawLemmas.{load_told}
use Rattle.load_model.proofs.laws.sums_of_a_load.Goals as goal

pub returns : goal.returns
returns c = load_told
