-- The desk learns the history that it finds at the shard, whose text it tells.
use Rattle.shared_board.proofs.ShardVisits.{visited_same, visited_tells}
use Rattle.shared_board.proofs.desk.SharedDesk.layout_of.Goals as goal

pub invariant_of-self : goal.invariant_of-self
invariant_of-self g c =
    visited_same c.self.inside.place.now.table_id c.self.inside.seat.table_id c.self.inside.seat.me c.self.inside.who c.self.inside.config
    c.self.inside.last c.self.inside.pins.items c.self.inside.done c.self.inside.late c.self.invariant c.args.self.now c.self.view_is
    c.layout_of.new.me.table_id c.layout_of.new.me.me c.layout_of.ensures.table c.args.shard c.requires.shard c.layout_of.ensures.told.0
    c.self.inside.done c.self.inside.late

pub returns-clause-layout : goal.returns-clause-layout
returns-clause-layout g c =
    visited_tells c.self.inside.place.now.table_id c.self.inside.seat.table_id c.self.inside.seat.me c.self.inside.who c.self.inside.config
    c.self.inside.last c.self.inside.pins.items c.self.inside.done c.self.inside.late c.self.invariant c.args.self.now c.self.view_is
    c.layout_of.new.me.table_id c.layout_of.new.me.me c.layout_of.ensures.table c.args.shard c.requires.shard c.layout_of.ensures.told.0
    c.layout_of.result c.layout_of.ensures.told.2
