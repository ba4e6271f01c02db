use Rattle.std.proofs.Common.{rules}
use Rattle.board_seats.proofs.SeatLemmas.{joins, sees}
use Rattle.board_seats.proofs.journal_seat.meet.Goals as goal

pub join_seat-requires : goal.join_seat-requires
join_seat-requires g c = (
  search rules,
  search rules,
  search rules,
  search rules,
  joins c.args.me.now.id c.args.me.now.me.0 c.args.other.id c.args.other.me.0 c.args.me.now.me.0.next c.requires.free.held,
)

pub load-requires : goal.load-requires
load-requires g c = (search rules, search rules, sees _ c.join_seat.new.seat.id c.join_seat.new.seat.me)
