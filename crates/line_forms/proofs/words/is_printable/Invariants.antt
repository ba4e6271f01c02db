use Rattle.std.proofs.Common.{◌≡◌, take}
use Rattle.line_forms.specs.Words.{is_printable}
use Rattle.line_forms.proofs.words.is_printable.Given as goal

-- whether the bytes so far are
abbrev pub invariant-loop-byte : goal.invariant-loop-byte
invariant-loop-byte l = l.printable ≡ is_printable (take l.byte-index l.line)
