use Rattle.std.proofs.Common.{◌≡◌, take}
use Rattle.line_forms.specs.Words.{has_no_space}
use Rattle.line_forms.proofs.words.has_no_space.Given as goal

-- whether none so far is
abbrev pub invariant-loop-byte : goal.invariant-loop-byte
invariant-loop-byte l = l.none ≡ has_no_space (take l.byte-index l.bytes)
