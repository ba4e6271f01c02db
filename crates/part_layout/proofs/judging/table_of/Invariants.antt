use Rattle.std.proofs.Common.{◌<◌, All, length}
use Rattle.part_layout.specs.ReadOn.{numbers_left, IsRest}
use Rattle.part_layout.proofs.JudgeLemmas.{IsMarked}
use Rattle.part_layout.proofs.judging.table_of.Given as goal

abbrev pub invariant-loop-listed : goal.invariant-loop-listed
invariant-loop-listed l =
    IsRest l.rest
    × All (λ number. number < 256) (numbers_left l.rest)
    × IsMarked l.table (numbers_left l.text) (numbers_left l.rest)

abbrev pub decreases-loop-listed : goal.decreases-loop-listed
decreases-loop-listed l = length l.rest
