-- What the loop keeps: so many pins, none of which gave a version.
use Rattle.std.proofs.Common.{◌≡◌, replicate, None}
use Rattle.shared_board.proofs.pinned_layout.no_pins.Given as goal

abbrev pub invariant-loop-number : goal.invariant-loop-number
invariant-loop-number l = l.pins.items ≡ replicate l.number None
