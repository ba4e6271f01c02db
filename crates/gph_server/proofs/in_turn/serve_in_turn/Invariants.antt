-- The desk stays at its board, with its Config and no front.
use Rattle.std.proofs.Common.{◌≡◌, []}
use Rattle.gph_server.proofs.in_turn.serve_in_turn.Given as goal

abbrev pub invariant-loop : goal.invariant-loop
invariant-loop g l =
    (goal.iterator-loop g).can_next l.iterator' × (goal.iterator-loop g).is_finite l.iterator'
    × (l.desk.board ≡ l.fn.desk.board) × (l.desk.config ≡ l.fn.desk.config) × (l.desk.fronts ≡ [])
