-- The other desk learns the whole history.
use Rattle.std.proofs.Common.{ap, subst}
use mathlib.Core.List.{IsPrefix}
use Rattle.shared_board.proofs.SharedLemmas.{met_begins, met_learns, met_seated}
use Rattle.shared_board.proofs.desk.SharedDesk.leave.Goals as goal

pub invariant_of-into : goal.invariant_of-into
invariant_of-into g c =
    met_seated c.into.inside.place.now.table_id c.into.inside.seat.table_id c.into.inside.seat.me c.into.inside.who c.into.inside.config
    c.into.inside.last c.into.inside.pins.items c.into.inside.done c.into.inside.late c.into.invariant c.args.into.now c.into.view_is
    c.meet.new.me.table_id c.meet.new.me.me
    c.meet.ensures.table _ _ c.meet.ensures.met

pub returns-clause-learns : goal.returns-clause-learns
returns-clause-learns g c =
    met_learns c.into.inside.place.now.table_id c.into.inside.seat.table_id c.into.inside.seat.me c.into.inside.who c.into.inside.config
    c.into.inside.last c.into.inside.pins.items c.into.inside.done c.into.inside.late c.into.invariant c.args.into.now c.into.view_is
    c.meet.new.me.table_id c.meet.new.me.me
    c.meet.ensures.table _ _ c.meet.ensures.met

pub returns-clause-met : goal.returns-clause-met
returns-clause-met g c =
    subst (λ h. IsPrefix h c.meet.new.me.me.0.seen) (ap (λ s. s.seen) c.self.view_is)
    (met_begins c.into.inside.place.now.table_id c.into.inside.seat.table_id c.into.inside.seat.me c.into.inside.who c.into.inside.config
    c.into.inside.last c.into.inside.pins.items c.into.inside.done c.into.inside.late c.into.invariant c.args.into.now c.into.view_is
    c.meet.new.me.table_id c.meet.new.me.me
    c.meet.ensures.table _ _ c.meet.ensures.met)
