-- What the loop keeps: the numbers of the desk.
use Rattle.std.proofs.Common.{◌≡◌}
use Rattle.tending_cases.proofs.turns.add_rows.Given as goal

abbrev pub invariant-loop-key : goal.invariant-loop-key
invariant-loop-key g l = (g.D.Desk.desk l.desk).config ≡ (g.D.Desk.desk l.fn.desk).config
