-- What the loop keeps: the words, cells and pins of so many shards.
use Rattle.shared_board.specs.Boards.{AreLaid}
use Rattle.shared_board.proofs.board.Board.numbered_from.Given as goal

abbrev pub invariant-loop-number : goal.invariant-loop-number
invariant-loop-number g l = AreLaid l.opening l.number l.words.items l.slots.items l.pins.items
