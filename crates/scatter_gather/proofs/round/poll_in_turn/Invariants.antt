-- The sources so far were polled where they may have the next hit, and the others are as they were.
use Rattle.scatter_gather.specs.Polling.{PollsFirst}
use Rattle.scatter_gather.proofs.round.poll_in_turn.Given as goal

abbrev pub invariant-loop-shard : goal.invariant-loop-shard
invariant-loop-shard g l =
    PollsFirst g.H.HitSource.asked g.H.HitSource.standing l.budget l.least l.shard l.fn.sources l.sources l.fn.meters
    l.meters
