-- No hit waits before a poll.
use Rattle.std.proofs.Common.{◌≡◌, []}
use Rattle.index_cases.proofs.sources.follow.Given as goal

abbrev pub invariant-loop-line : goal.invariant-loop-line
invariant-loop-line g l = (g.S.HitSource.standing l.source).waiting ≡ []
