use Rattle.layout_search.specs.Trial.{AreTurned, HaveSameCounts}
use Rattle.layout_search.proofs.trial.turn_all.Given as goal

abbrev pub invariant-loop-at : goal.invariant-loop-at
invariant-loop-at l = HaveSameCounts l.fn.tables l.tables × AreTurned l.part l.at l.tables
