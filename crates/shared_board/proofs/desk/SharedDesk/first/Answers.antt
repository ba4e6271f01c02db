-- The first desk has seen nothing.
use Rattle.shared_board.proofs.SharedLemmas.{first_is, first_seated}
use Rattle.shared_board.proofs.desk.SharedDesk.first.Goals as goal

pub invariant_of-result : goal.invariant_of-result
invariant_of-result g c =
    first_seated c.args.place.now.table_id c.args.seat.table_id c.args.seat.me c.args.opening c.args.pins.items c.requires.pins
    c.requires.seat c.requires.board c.requires.places c.requires.asked

pub returns : goal.returns
returns g c =
    first_is c.args.place.now.table_id c.args.seat.table_id c.args.seat.me c.args.opening c.args.pins.items c.requires.pins
    c.requires.seat
