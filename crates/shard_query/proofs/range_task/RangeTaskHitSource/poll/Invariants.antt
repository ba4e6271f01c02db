-- Each unit of work so far was done on this plan with this room.
use Rattle.std.proofs.Common.{◌≡◌, ◌-◌, ◌≤◌, None}
use Rattle.hit_source.specs.Work.{Works}
use Rattle.shard_query.specs.Tasks.{standing_of}
use Rattle.shard_query.proofs.range_task.RangeTaskHitSource.poll.Given as goal

abbrev pub invariant-loop-left : goal.invariant-loop-left
invariant-loop-left g l =
    (l.self.plan ≡ l.fn.self.plan)
    × (l.self.window.room ≡ l.fn.self.window.room)
    × (l.left ≤ l.budget)
    × Works None (l.budget - l.left) (standing_of l.fn.self.plan l.fn.self.walk l.fn.self.window l.fn.self.reads)
    (standing_of l.self.plan l.self.walk l.self.window l.self.reads) l.fn.steps l.steps

abbrev pub decreases-loop-left : goal.decreases-loop-left
decreases-loop-left g l = l.left
