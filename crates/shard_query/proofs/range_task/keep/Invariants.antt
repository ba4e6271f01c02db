-- The hits kept of the postings so far stand behind those that were found.
use Rattle.std.proofs.Common.{◌≡◌, take}
use Rattle.shard_walk.specs.Planned.{kept_of}
use Rattle.shard_query.specs.Tasks.{with_kept}
use Rattle.shard_query.proofs.range_task.keep.Given as goal

abbrev pub invariant-loop-posting : goal.invariant-loop-posting
invariant-loop-posting g l = l.window ≡ with_kept l.fn.window (kept_of l.plan l.part (take l.posting-index l.run))
