use Rattle.part_layout.proofs.BytesLemmas.{bytes_of_layout}
use Rattle.part_layout.proofs.laws.bytes_of_layouts.Goals as goal

pub returns : goal.returns
returns c = bytes_of_layout
