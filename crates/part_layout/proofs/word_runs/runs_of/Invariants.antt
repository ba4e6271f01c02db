use Rattle.part_layout.specs.Kept.{lists_of}
use Rattle.part_layout.proofs.WordRunLemmas.{RunsSoFar}
use Rattle.part_layout.proofs.word_runs.runs_of.Given as goal

abbrev pub invariant-loop-part : goal.invariant-loop-part
invariant-loop-part l = RunsSoFar (lists_of l.parts) l.runs.items l.part-index
