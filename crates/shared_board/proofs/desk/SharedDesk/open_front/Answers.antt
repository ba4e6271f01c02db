-- The desk learns what the journal has, and has a front more.
use Rattle.shared_board.proofs.SharedLemmas.{any_err, settled_learns, settled_seated}
use Rattle.shared_board.proofs.FrontCalls.{opened_desk, opened_own, opened_seated}
use Rattle.shared_board.proofs.desk.SharedDesk.open_front.Goals as goal

pub invariant_of-self : goal.invariant_of-self
invariant_of-self g c =
    settled_seated c.self.inside.place.now.table_id c.self.inside.seat.table_id c.self.inside.seat.me c.self.inside.who c.self.inside.config
    c.self.inside.last c.self.inside.pins.items c.self.inside.done c.self.inside.late c.self.invariant c.args.self.now c.self.view_is
    c.open_front.new.me.table_id c.open_front.new.me.me
    c.open_front.ensures.table c.in_err-front.ensures.unchanged.0

pub returns-in_err-front-clause-unchanged : goal.returns-in_err-front-clause-unchanged
returns-in_err-front-clause-unchanged g c =
    any_err c.from_residual.result (settled_learns c.self.inside.place.now.table_id c.self.inside.seat.table_id c.self.inside.seat.me
    c.self.inside.who c.self.inside.config
    c.self.inside.last c.self.inside.pins.items c.self.inside.done c.self.inside.late c.self.invariant c.args.self.now c.self.view_is
    c.open_front.new.me.table_id c.open_front.new.me.me
    c.open_front.ensures.table
    c.in_err-front.ensures.unchanged.0 c.in_err-front.ensures.unchanged.1)

pub invariant_of-self-2 : goal.invariant_of-self-2
invariant_of-self-2 g c =
    opened_seated c.self.inside.place.now.table_id c.self.inside.seat.table_id c.self.inside.seat.me c.self.inside.who c.self.inside.config
    c.self.inside.last c.self.inside.pins.items c.self.inside.done c.self.inside.late c.self.invariant c.args.self.now c.self.view_is
    c.open_front.new.me.table_id c.open_front.new.me.me
    c.open_front.ensures.table c.in_ok-front.front c.in_ok-front.ensures.opened.0 c.in_ok-front.ensures.opened.1
    c.position-self-inside.result

pub returns-clause-opened : goal.returns-clause-opened
returns-clause-opened g c =
    opened_desk c.self.inside.place.now.table_id c.self.inside.seat.table_id c.self.inside.seat.me c.self.inside.who c.self.inside.config
    c.self.inside.last c.self.inside.pins.items c.self.inside.done c.self.inside.late c.self.invariant c.args.self.now c.self.view_is
    c.open_front.new.me.table_id c.open_front.new.me.me
    c.open_front.ensures.table c.in_ok-front.front c.in_ok-front.ensures.opened.0 c.in_ok-front.ensures.opened.1
    c.position-self-inside.result c.position-self-inside.ensures.position

pub returns-clause-own : goal.returns-clause-own
returns-clause-own g c =
    opened_own c.self.inside.place.now.table_id c.self.inside.seat.table_id c.self.inside.seat.me c.self.inside.who c.self.inside.config
    c.self.inside.last c.self.inside.pins.items c.self.inside.done c.self.inside.late c.self.invariant c.args.self.now c.self.view_is
    c.open_front.new.me.table_id c.open_front.new.me.me
    c.open_front.ensures.table c.in_ok-front.front c.in_ok-front.ensures.opened.0 c.in_ok-front.ensures.opened.1
    c.position-self-inside.result
