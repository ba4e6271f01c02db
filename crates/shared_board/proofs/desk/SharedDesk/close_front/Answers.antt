-- The desk learns what the journal has, and has a front less.
use Rattle.shared_board.proofs.FrontCalls.{closed_desk, closed_fronts, closed_seated}
use Rattle.shared_board.proofs.desk.SharedDesk.close_front.Goals as goal

pub invariant_of-self : goal.invariant_of-self
invariant_of-self g c =
    closed_seated c.self.inside.place.now.table_id c.self.inside.seat.table_id c.self.inside.seat.me c.self.inside.who c.self.inside.config
    c.self.inside.last c.self.inside.pins.items c.self.inside.done c.self.inside.late c.self.invariant c.args.self.now c.self.view_is
    c.close_front.new.me.table_id
    c.close_front.new.me.me c.close_front.ensures.table c.args.front c.close_front.ensures.closed.0 c.close_front.ensures.closed.1

pub returns-clause-closed : goal.returns-clause-closed
returns-clause-closed g c =
    closed_desk c.self.inside.place.now.table_id c.self.inside.seat.table_id c.self.inside.seat.me c.self.inside.who c.self.inside.config
    c.self.inside.last c.self.inside.pins.items c.self.inside.done c.self.inside.late c.self.invariant c.args.self.now c.self.view_is
    c.close_front.new.me.table_id
    c.close_front.new.me.me c.close_front.ensures.table c.args.front c.close_front.ensures.closed.0 c.close_front.ensures.closed.1

pub returns-clause-fronts : goal.returns-clause-fronts
returns-clause-fronts g c =
    closed_fronts c.self.inside.place.now.table_id c.self.inside.seat.table_id c.self.inside.seat.me c.self.inside.who c.self.inside.config
    c.self.inside.last c.self.inside.pins.items c.self.inside.done c.self.inside.late c.self.invariant c.args.self.now c.self.view_is
    c.close_front.new.me.table_id
    c.close_front.new.me.me c.close_front.ensures.table c.args.front c.close_front.ensures.closed.0 c.close_front.ensures.closed.1
