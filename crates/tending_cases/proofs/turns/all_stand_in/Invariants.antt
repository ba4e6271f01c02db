-- What the loop keeps: the numbers of the desk.
use Rattle.std.proofs.Common.{◌≡◌}
use Rattle.tending_cases.proofs.turns.all_stand_in.Given as goal

abbrev pub invariant-loop-shard : goal.invariant-loop-shard
invariant-loop-shard g l = (g.D.Desk.desk l.desk).config ≡ (g.D.Desk.desk l.fn.desk).config
