-- What the loop keeps: the desk's Config.
use Rattle.std.proofs.Common.{◌≡◌}
use Rattle.near_cases.proofs.gathered.add_all.Given as goal

abbrev pub invariant-loop-row : goal.invariant-loop-row
invariant-loop-row g l = (g.D.Desk.desk l.desk).config ≡ (g.D.Desk.desk l.fn.desk).config
