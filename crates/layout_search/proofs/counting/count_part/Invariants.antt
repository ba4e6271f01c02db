use Rattle.part_layout.specs.Laid.{part_at}
use Rattle.layout_search.specs.Inside.{AreCounted}
use Rattle.layout_search.proofs.counting.count_part.Given as goal

abbrev pub invariant-loop-at : goal.invariant-loop-at
invariant-loop-at g l = AreCounted l.layout.bits l.rows l.samples l.part (part_at l.layout l.part) l.fn.tables l.tables l.at
