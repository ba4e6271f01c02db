-- The desk learns what the journal has.
use Rattle.shared_board.proofs.SharedLemmas.{settled_learns, settled_seated}
use Rattle.shared_board.proofs.desk.SharedDesk.code_of.Goals as goal

pub invariant_of-self : goal.invariant_of-self
invariant_of-self g c =
    settled_seated c.self.inside.place.now.table_id c.self.inside.seat.table_id c.self.inside.seat.me c.self.inside.who c.self.inside.config
    c.self.inside.last c.self.inside.pins.items c.self.inside.done c.self.inside.late c.self.invariant c.args.self.now c.self.view_is
    c.code_of.new.me.table_id
    c.code_of.new.me.me c.code_of.ensures.table c.code_of.ensures.visited.0

pub returns-clause-learns : goal.returns-clause-learns
returns-clause-learns g c =
    settled_learns c.self.inside.place.now.table_id c.self.inside.seat.table_id c.self.inside.seat.me c.self.inside.who c.self.inside.config
    c.self.inside.last c.self.inside.pins.items c.self.inside.done c.self.inside.late c.self.invariant c.args.self.now c.self.view_is
    c.code_of.new.me.table_id
    c.code_of.new.me.me c.code_of.ensures.table c.code_of.ensures.visited.0
    c.code_of.ensures.visited.1
