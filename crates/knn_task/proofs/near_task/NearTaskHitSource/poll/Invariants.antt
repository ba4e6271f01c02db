-- Each unit of work so far was done on this search with this room, under this limit.
use Rattle.std.proofs.Common.{◌≡◌, ◌-◌, ◌≤◌}
use Rattle.std.specs.Prelude.{Some}
use Rattle.hit_source.specs.Work.{Works}
use Rattle.knn_task.specs.Near.{IsUnder}
use Rattle.knn_task.specs.Standings.{near_task_standing}
use Rattle.knn_task.specs.Walked.{search_of}
use Rattle.knn_task.proofs.near_task.NearTaskHitSource.poll.Given as goal

abbrev pub invariant-loop-left : goal.invariant-loop-left
invariant-loop-left g l =
    (search_of l.self.rings.plan ≡ search_of l.fn.self.rings.plan)
    × (l.self.window.room ≡ l.fn.self.window.room)
    × (l.left ≤ l.budget)
    × Works (Some l.limit) (l.budget - l.left)
    (near_task_standing l.fn.self) (near_task_standing l.self) l.fn.steps l.steps
    × IsUnder l.limit l.self.window l.self.mark

abbrev pub decreases-loop-left : goal.decreases-loop-left
decreases-loop-left g l = l.left
