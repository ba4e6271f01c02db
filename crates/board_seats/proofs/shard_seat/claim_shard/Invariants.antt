use Rattle.std.proofs.Common.{◌≡◌}
use Rattle.board_seats.proofs.shard_seat.claim_shard.Given as goal

abbrev pub invariant-loop : goal.invariant-loop
invariant-loop g l =
    (goal.iterator-loop g).can_next l.iterator' × (goal.iterator-loop g).is_finite l.iterator'
    × (l.me.table_id ≡ l.fn.me.table_id) × (l.me.id ≡ l.fn.me.id) × (l.me.me ≡ l.fn.me.me)
