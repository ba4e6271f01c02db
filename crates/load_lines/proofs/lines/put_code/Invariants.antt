use Rattle.std.proofs.Common.{◌≡◌, ◌-◌, ◌/◌, ◌++◌}
use Rattle.load_lines.specs.Lines.{digits_from, code_text}
use Rattle.load_lines.proofs.lines.put_code.Given as goal

abbrev pub invariant-loop-place : goal.invariant-loop-place
invariant-loop-place l =
    l.text.items ++ digits_from l.code (l.bits / 4 - l.place) l.place ≡ l.fn.text.items ++ code_text l.bits l.code
