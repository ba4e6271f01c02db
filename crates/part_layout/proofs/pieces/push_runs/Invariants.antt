use Rattle.std.proofs.Common.{◌≡◌, ◌++◌}
use Rattle.part_layout.specs.Contiguous.{runs}
use Rattle.part_layout.specs.Kept.{lists_of}
use Rattle.part_layout.proofs.pieces.push_runs.Given as goal

abbrev pub invariant-loop-done : goal.invariant-loop-done
invariant-loop-done l = lists_of l.parts.items ≡ lists_of l.initial.parts.items ++ runs l.done l.width l.first
