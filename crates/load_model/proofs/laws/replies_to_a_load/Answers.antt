use Rattle.load_model.proofs.LawLemmas.{load_written}
use Rattle.load_model.proofs.laws.replies_to_a_load.Goals as goal

pub returns : goal.returns
returns c = load_written
