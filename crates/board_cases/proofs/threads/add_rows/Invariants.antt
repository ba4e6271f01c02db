-- What the loop keeps: the desk's board and Config, and that it has no front.
use Rattle.std.proofs.Common.{◌≡◌, []}
use Rattle.board_cases.proofs.threads.add_rows.Given as goal

abbrev pub invariant-loop-place : goal.invariant-loop-place
invariant-loop-place g l =
    (l.adding.board ≡ l.fn.desk.board) × (l.adding.config ≡ l.fn.desk.config)
    × (l.adding.fronts ≡ [])
