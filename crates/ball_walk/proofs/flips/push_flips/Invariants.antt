use Rattle.std.proofs.Common.{◌≡◌, ◌++◌, ◌==◌, filter}
use Rattle.std.specs.Int.RustNames.{count_ones}
use Rattle.std.specs.List.{range_with_len}
use Rattle.ball_walk.proofs.flips.push_flips.Given as goal

abbrev pub invariant-loop-number : goal.invariant-loop-number
invariant-loop-number l =
    l.numbers.items ≡ l.initial.numbers.items ++ filter (λ flip. count_ones flip == l.ones) (range_with_len 0 l.number)
