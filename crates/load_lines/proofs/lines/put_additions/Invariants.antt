use Rattle.std.proofs.Common.{◌≡◌, ◌++◌, drop}
use Rattle.load_lines.specs.Lines.{add_lines}
use Rattle.load_lines.proofs.lines.put_additions.Given as goal

abbrev pub invariant-loop-key : goal.invariant-loop-key
invariant-loop-key l =
    l.text.items ++ add_lines l.bits l.key (drop l.key l.added) ≡ l.fn.text.items ++ add_lines l.bits 0 l.added
