use Rattle.part_layout.proofs.ReadBackLemmas.{reads_back}
use Rattle.part_layout.proofs.laws.text_of_layouts.Goals as goal

pub returns : goal.returns
returns c = reads_back
