use Rattle.std.proofs.Common.{◌≤◌, take}
use Rattle.part_layout.specs.Grammar.{IsPrefixBefore}
use Rattle.part_layout.proofs.SyntaxLemmas.{IsBegun}
use Rattle.part_layout.proofs.syntax.syntax_fault.Given as goal

abbrev pub invariant-loop-at : goal.invariant-loop-at
invariant-loop-at l = (l.digits ≤ 3) × IsBegun (take l.at l.text) l.digits × IsPrefixBefore l.text l.at
