use Rattle.std.proofs.Common.{rules}
use Rattle.board_seats.proofs.SeatLemmas.{notes}
use Rattle.board_seats.proofs.journal_seat.note.Goals as goal

pub split_seat-requires : goal.split_seat-requires
split_seat-requires g c = (search rules, search rules, notes c.args.me.now.id c.args.me.now.me.0)
