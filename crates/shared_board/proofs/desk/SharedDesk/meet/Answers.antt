-- The desk learns the whole history.
use Rattle.std.proofs.Common.{ap, subst}
use mathlib.Core.List.{IsPrefix}
use Rattle.shared_board.proofs.SharedLemmas.{met_begins, met_learns, met_seated}
use Rattle.shared_board.proofs.desk.SharedDesk.meet.Goals as goal

pub invariant_of-self : goal.invariant_of-self
invariant_of-self g c =
    met_seated c.self.inside.place.now.table_id c.self.inside.seat.table_id c.self.inside.seat.me c.self.inside.who c.self.inside.config
    c.self.inside.last c.self.inside.pins.items c.self.inside.done c.self.inside.late c.self.invariant c.args.self.now c.self.view_is
    c.meet.new.me.table_id c.meet.new.me.me
    c.meet.ensures.table _ _ c.meet.ensures.met

pub returns-clause-learns : goal.returns-clause-learns
returns-clause-learns g c =
    met_learns c.self.inside.place.now.table_id c.self.inside.seat.table_id c.self.inside.seat.me c.self.inside.who c.self.inside.config
    c.self.inside.last c.self.inside.pins.items c.self.inside.done c.self.inside.late c.self.invariant c.args.self.now c.self.view_is
    c.meet.new.me.table_id c.meet.new.me.me
    c.meet.ensures.table _ _ c.meet.ensures.met

pub returns-clause-met : goal.returns-clause-met
returns-clause-met g c =
    subst (λ h. IsPrefix h c.meet.new.me.me.0.seen) (ap (λ n. n.1) c.note.view_is)
    (met_begins c.self.inside.place.now.table_id c.self.inside.seat.table_id c.self.inside.seat.me c.self.inside.who c.self.inside.config
    c.self.inside.last c.self.inside.pins.items c.self.inside.done c.self.inside.late c.self.invariant c.args.self.now c.self.view_is
    c.meet.new.me.table_id c.meet.new.me.me
    c.meet.ensures.table _ _ c.meet.ensures.met)
