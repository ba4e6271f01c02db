-- The desk learns the history that it finds at the shard, and counts the swap.
use Rattle.std.proofs.Common.{ap, ◌∙◌, refl, true, false, ℕ, sym}
use Rattle.std.specs.Prelude.{if◌then◌else◌}
use Rattle.shard_version.specs.Tables.{Tabled}
use Rattle.versioned_shard.specs.Shards.{contents_at}
use Rattle.session_desk.specs.Calls.{is_late, one_more}
use Rattle.shared_board.proofs.ShardSwaps.{visited_swaps}
use Rattle.shared_board.proofs.ShardVisits.{left_there, visited_same}
use Rattle.shared_board.proofs.desk.SharedDesk.swap.Goals as goal

pub invariant_of-self : goal.invariant_of-self
invariant_of-self g c =
    visited_same c.self.inside.place.now.table_id c.self.inside.seat.table_id c.self.inside.seat.me c.self.inside.who c.self.inside.config
    c.self.inside.last c.self.inside.pins.items c.self.inside.done c.self.inside.late c.self.invariant c.args.self.now c.self.view_is
    c.swap-swapped.new.me.table_id c.swap-swapped.new.me.me c.swap-swapped.ensures.table c.args.shard c.requires.shard c.in-Ok.ensures.swapped.0
    c.one_more-self-inside.result c.self.inside.late

pub returns-in-Ok-clause-swapped : goal.returns-in-Ok-clause-swapped
returns-in-Ok-clause-swapped g c =
    visited_swaps c.self.inside.place.now.table_id c.self.inside.seat.table_id c.self.inside.seat.me c.self.inside.who c.self.inside.config
    c.self.inside.last c.self.inside.pins.items c.self.inside.done c.self.inside.late c.self.invariant c.args.self.now c.self.view_is
    c.swap-swapped.new.me.table_id c.swap-swapped.new.me.me c.swap-swapped.ensures.table c.args.shard c.requires.shard c.in-Ok.ensures.swapped.0
    (contents_at c.args.prepared.version) false c.in-Ok.ensures.swapped.1 c.one_more-self-inside.result c.self.inside.late
    c.one_more-self-inside.ensures refl

pub invariant_of-self-in-Err : goal.invariant_of-self-in-Err
invariant_of-self-in-Err g c =
    visited_same c.self.inside.place.now.table_id c.self.inside.seat.table_id c.self.inside.seat.me c.self.inside.who c.self.inside.config
    c.self.inside.last c.self.inside.pins.items c.self.inside.done c.self.inside.late c.self.invariant c.args.self.now c.self.view_is
    c.swap-swapped.new.me.table_id c.swap-swapped.new.me.me c.swap-swapped.ensures.table c.args.shard c.requires.shard c.in-Err.ensures.swapped.0
    c.self.inside.done c.late_after-self-inside.result

pub returns-in-Err-clause-swapped : goal.returns-in-Err-clause-swapped
returns-in-Err-clause-swapped g c =
    visited_swaps c.self.inside.place.now.table_id c.self.inside.seat.table_id c.self.inside.seat.me c.self.inside.who c.self.inside.config
    c.self.inside.last c.self.inside.pins.items c.self.inside.done c.self.inside.late c.self.invariant c.args.self.now c.self.view_is
    c.swap-swapped.new.me.table_id c.swap-swapped.new.me.me c.swap-swapped.ensures.table c.args.shard c.requires.shard c.in-Err.ensures.swapped.0
    (contents_at c.args.prepared.version) true c.in-Err.ensures.swapped.1 c.self.inside.done c.late_after-self-inside.result refl
    (c.late_after-self-inside.ensures
    ∙ ap (λ (n : ℕ). if is_late c.self.inside.last n c.in-Err.moved.shard_at then one_more c.self.inside.late else c.self.inside.late)
    (c.at-position.ensures.at ∙ ap (λ (each : Tabled). each.contents.at) c.deref.ensures)
    ∙ ap (λ (n : ℕ). if is_late c.self.inside.last (contents_at c.args.prepared.version).at n then one_more c.self.inside.late else c.self.inside.late)
    c.in-Err.ensures.swapped.2)

pub returns-in-Err-clause-at : goal.returns-in-Err-clause-at
returns-in-Err-clause-at g c =
    c.in-Err.ensures.swapped.2
    ∙ sym (left_there c.self.inside.place.now.table_id c.self.inside.seat.table_id c.self.inside.seat.me c.self.inside.who c.self.inside.config
    c.self.inside.last c.self.inside.pins.items c.self.inside.done c.self.inside.late c.self.invariant c.args.self.now c.self.view_is
    c.swap-swapped.new.me.table_id c.swap-swapped.new.me.me c.swap-swapped.ensures.table c.args.shard c.requires.shard c.in-Err.ensures.swapped.0
    c.self.inside.pins.items c.self.inside.done c.late_after-self-inside.result)
