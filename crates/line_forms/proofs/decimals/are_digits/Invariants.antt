use Rattle.std.proofs.Common.{◌≡◌, nat_lt, take}
use Rattle.std.specs.Char.{digit_value}
use Rattle.std.specs.List.{list_all}
use Rattle.line_forms.proofs.decimals.are_digits.Given as goal

-- whether those so far are
abbrev pub invariant-loop-byte : goal.invariant-loop-byte
invariant-loop-byte l = l.all ≡ list_all (λ byte. nat_lt (digit_value byte) 10) (take l.byte-index l.word)
