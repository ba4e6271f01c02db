use Rattle.std.proofs.Common.{arith}
use Rattle.std.proofs.lemmas.Nat.{one_shl}
use Rattle.ball_walk.proofs.ball.bound_of.Goals as goal

pub returns : goal.returns
returns c = one_shl c.args.width 16 (omega arith)
