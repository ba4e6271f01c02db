-- The desk learns what the journal has, and its own entry.
use Rattle.entry_log.specs.Entries.{kept_operation}
use Rattle.shared_board.proofs.SharedLemmas.{map_err, map_ok, settled_commits, settled_learns, settled_seated, visit_of}
use Rattle.shared_board.proofs.desk.SharedDesk.commit.Goals as goal

pub invariant_of-self : goal.invariant_of-self
invariant_of-self g c =
    settled_seated c.self.inside.place.now.table_id c.self.inside.seat.table_id c.self.inside.seat.me c.self.inside.who c.self.inside.config
    c.self.inside.last c.self.inside.pins.items c.self.inside.done c.self.inside.late c.self.invariant c.args.self.now c.self.view_is
    c.commit.new.me.table_id c.commit.new.me.me
    c.commit.ensures.table
    (visit_of c.commit.result _ _ _ c.commit.ensures.decided c.commit.ensures.unchanged)

pub returns-clause-decided : goal.returns-clause-decided
returns-clause-decided g c =
    map_ok c.commit.result (λ decided visit. settled_commits c.self.inside.place.now.table_id c.self.inside.seat.table_id c.self.inside.seat.me
    c.self.inside.who c.self.inside.config
    c.self.inside.last c.self.inside.pins.items c.self.inside.done c.self.inside.late c.self.invariant c.args.self.now c.self.view_is
    c.commit.new.me.table_id c.commit.new.me.me
    c.commit.ensures.table
    visit.0 (kept_operation c.args.op) decided visit.1) c.commit.ensures.decided

pub returns-clause-unchanged : goal.returns-clause-unchanged
returns-clause-unchanged g c =
    map_err c.commit.result (λ visit. settled_learns c.self.inside.place.now.table_id c.self.inside.seat.table_id c.self.inside.seat.me
    c.self.inside.who c.self.inside.config
    c.self.inside.last c.self.inside.pins.items c.self.inside.done c.self.inside.late c.self.invariant c.args.self.now c.self.view_is
    c.commit.new.me.table_id c.commit.new.me.me
    c.commit.ensures.table
    visit.0 visit.1) c.commit.ensures.unchanged
