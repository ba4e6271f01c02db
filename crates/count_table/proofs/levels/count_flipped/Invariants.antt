use Rattle.std.proofs.Common.{◌≡◌, get_or, sum_by, take}
use Rattle.std.specs.Int.RustNames.{bit_xor}
use Rattle.count_table.proofs.levels.count_flipped.Given as goal

abbrev pub invariant-loop-flip : goal.invariant-loop-flip
invariant-loop-flip l = l.count ≡ sum_by (λ flip. get_or l.copies (bit_xor l.value flip) 0) (take l.flip-index l.flips)
