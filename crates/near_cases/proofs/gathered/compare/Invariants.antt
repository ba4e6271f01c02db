-- What the loop keeps: the desk's Config.
use Rattle.std.proofs.Common.{◌≡◌}
use Rattle.near_cases.proofs.gathered.compare.Given as goal

abbrev pub invariant-loop-place : goal.invariant-loop-place
invariant-loop-place g l = (g.D.Desk.desk l.desk).config ≡ (g.D.Desk.desk l.fn.desk).config
