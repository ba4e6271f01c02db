-- The desk learns the history that it finds at the shard, and has the version as its last pin.
use Rattle.std.proofs.Common.{ap, ◌∙◌, ℕ, List}
use Rattle.commit_journal.specs.Fronts.{position_of}
use Rattle.versioned_shard.specs.Shards.{contents_at}
use Rattle.session_desk.specs.Desks.{Pin}
use Rattle.shared_board.proofs.SharedLemmas.{any_err}
use Rattle.shared_board.proofs.ShardVisits.{pinned_desk, pinned_seated, upkeep_from_pin, visited_comes, visited_same}
use Rattle.shared_board.proofs.desk.SharedDesk.pin.Goals as goal

pub invariant_of-self : goal.invariant_of-self
invariant_of-self g c =
    visited_same c.self.inside.place.now.table_id c.self.inside.seat.table_id c.self.inside.seat.me c.self.inside.who c.self.inside.config
    c.self.inside.last c.self.inside.pins.items c.self.inside.done c.self.inside.late c.self.invariant c.args.self.now c.self.view_is
    c.pin.new.me.table_id c.pin.new.me.me c.pin.ensures.table c.args.shard c.requires.shard c.pin.ensures.pinned.0
    c.self.inside.done c.self.inside.late

pub returns-in_err-version-clause-comes : goal.returns-in_err-version-clause-comes
returns-in_err-version-clause-comes g c = any_err c.from_residual.result
    (visited_comes c.self.inside.place.now.table_id c.self.inside.seat.table_id c.self.inside.seat.me c.self.inside.who c.self.inside.config
    c.self.inside.last c.self.inside.pins.items c.self.inside.done c.self.inside.late c.self.invariant c.args.self.now c.self.view_is
    c.pin.new.me.table_id c.pin.new.me.me c.pin.ensures.table c.args.shard c.requires.shard c.pin.ensures.pinned.0)

pub returns-in_err-version-clause-upkeep : goal.returns-in_err-version-clause-upkeep
returns-in_err-version-clause-upkeep g c =
    upkeep_from_pin c.self.inside.place.now.table_id c.self.inside.seat.table_id c.self.inside.seat.me c.self.inside.who c.self.inside.config
    c.self.inside.last c.self.inside.pins.items c.self.inside.done c.self.inside.late c.self.invariant c.args.self.now c.self.view_is
    c.pin.new.me.table_id c.pin.new.me.me c.pin.ensures.table c.args.shard c.requires.shard c.pin.ensures.pinned.0
    (position_of c.args.front.now) _ _ c.pin.ensures.upkeep

pub invariant_of-self-in_err-layout : goal.invariant_of-self-in_err-layout
invariant_of-self-in_err-layout g c =
    visited_same c.self.inside.place.now.table_id c.self.inside.seat.table_id c.self.inside.seat.me c.self.inside.who c.self.inside.config
    c.self.inside.last c.self.inside.pins.items c.self.inside.done c.self.inside.late c.self.invariant c.args.self.now c.self.view_is
    c.pin.new.me.table_id c.pin.new.me.me c.pin.ensures.table c.args.shard c.requires.shard c.pin.ensures.pinned.0
    c.self.inside.done c.self.inside.late

pub returns-in_err-layout-clause-comes : goal.returns-in_err-layout-clause-comes
returns-in_err-layout-clause-comes g c = any_err c.from_residual-in_err-layout.result
    (visited_comes c.self.inside.place.now.table_id c.self.inside.seat.table_id c.self.inside.seat.me c.self.inside.who c.self.inside.config
    c.self.inside.last c.self.inside.pins.items c.self.inside.done c.self.inside.late c.self.invariant c.args.self.now c.self.view_is
    c.pin.new.me.table_id c.pin.new.me.me c.pin.ensures.table c.args.shard c.requires.shard c.pin.ensures.pinned.0)

pub returns-in_err-layout-clause-upkeep : goal.returns-in_err-layout-clause-upkeep
returns-in_err-layout-clause-upkeep g c =
    upkeep_from_pin c.self.inside.place.now.table_id c.self.inside.seat.table_id c.self.inside.seat.me c.self.inside.who c.self.inside.config
    c.self.inside.last c.self.inside.pins.items c.self.inside.done c.self.inside.late c.self.invariant c.args.self.now c.self.view_is
    c.pin.new.me.table_id c.pin.new.me.me c.pin.ensures.table c.args.shard c.requires.shard c.pin.ensures.pinned.0
    (position_of c.args.front.now) _ _ c.pin.ensures.upkeep

pub invariant_of-self-2 : goal.invariant_of-self-2
invariant_of-self-2 g c =
    pinned_seated c.self.inside.place.now.table_id c.self.inside.seat.table_id c.self.inside.seat.me c.self.inside.who c.self.inside.config
    c.self.inside.last c.self.inside.pins.items c.self.inside.done c.self.inside.late c.self.invariant c.args.self.now c.self.view_is
    c.pin.new.me.table_id c.pin.new.me.me c.pin.ensures.table c.args.shard c.requires.shard c.in_ok-version.ensures.pinned.0
    c.args.front.now (contents_at c.in_ok-version.version) c.in_ok-version.ensures.pinned.2.1 c.in_ok-version.ensures.pinned.2.0
    (c.position.result, c.in_ok-layout.layout)
    (ap (λ (at : ℕ). let pin : Pin = (at, c.in_ok-layout.layout) in pin) c.position.ensures.position
    ∙ ap (λ (text : List ℕ). let pin : Pin = (position_of c.args.front.now, text) in pin) c.in_ok-layout.ensures)

pub returns-clause-pinned : goal.returns-clause-pinned
returns-clause-pinned g c =
    pinned_desk c.self.inside.place.now.table_id c.self.inside.seat.table_id c.self.inside.seat.me c.self.inside.who c.self.inside.config
    c.self.inside.last c.self.inside.pins.items c.self.inside.done c.self.inside.late c.self.invariant c.args.self.now c.self.view_is
    c.pin.new.me.table_id c.pin.new.me.me c.pin.ensures.table c.args.shard c.requires.shard c.in_ok-version.ensures.pinned.0
    c.args.front.now (contents_at c.in_ok-version.version) c.in_ok-version.ensures.pinned.2.1 c.in_ok-version.ensures.pinned.2.0
    (c.position.result, c.in_ok-layout.layout)
    (ap (λ (at : ℕ). let pin : Pin = (at, c.in_ok-layout.layout) in pin) c.position.ensures.position
    ∙ ap (λ (text : List ℕ). let pin : Pin = (position_of c.args.front.now, text) in pin) c.in_ok-layout.ensures)

pub returns-clause-upkeep : goal.returns-clause-upkeep
returns-clause-upkeep g c =
    upkeep_from_pin c.self.inside.place.now.table_id c.self.inside.seat.table_id c.self.inside.seat.me c.self.inside.who c.self.inside.config
    c.self.inside.last c.self.inside.pins.items c.self.inside.done c.self.inside.late c.self.invariant c.args.self.now c.self.view_is
    c.pin.new.me.table_id c.pin.new.me.me c.pin.ensures.table c.args.shard c.requires.shard c.pin.ensures.pinned.0
    (position_of c.args.front.now) _ _ c.pin.ensures.upkeep
