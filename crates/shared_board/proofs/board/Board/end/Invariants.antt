-- What the loop keeps: the cells before a number were taken out.
use Rattle.std.proofs.Common.{◌≡◌}
use Rattle.std.specs.Mem.Slots.{slots_filled, slots_len}
use Rattle.shared_board.specs.Boards.{AreOut}
use Rattle.shared_board.proofs.board.Board.end.Given as goal

abbrev pub invariant-loop-other : goal.invariant-loop-other
invariant-loop-other g l =
    (slots_len l.closed.slots ≡ l.count) × AreOut (slots_filled l.closed.slots) l.count l.other
