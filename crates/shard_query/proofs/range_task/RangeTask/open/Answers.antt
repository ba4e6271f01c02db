-- Nothing was found yet, and what the walk will keep is the answer.
use Rattle.std.proofs.Common.{[], ◌≤◌, arith, ap, sym, ◌∙◌, subst}
use Rattle.hit_source.specs.Windows.{window_of}
use Rattle.shard_walk.specs.Planned.{parts_of, planned_query}
use Rattle.shard_walk.specs.Walks.{rows_left}
use Rattle.shard_query.specs.Tasks.{IsTask}
use Rattle.shard_query.proofs.TaskLemmas.{task_begins}
use Rattle.shard_query.proofs.range_task.RangeTask.open.Goals as goal

pub invariant_of-result : goal.invariant_of-result
invariant_of-result g c =
    let p = c.in_ok-plan.plan in
    let few = c.hits_are_few.ensures.of_parts (parts_of p) p.thresholds (planned_query p) p.tau c.start-walk.result.part
    (rows_left p c.start-walk.result) in
    let plans = c.in_ok-plan.ensures in
    let bits = ap (λ v. v.contents.layout.bits) plans.version_is in
    let near : p.tau ≤ p.version.contents.layout.bits = omega (arith, plans.tau_is, bits, c.requires.near) in
    record {
      kept = subst (λ w. IsTask p c.start-walk.result w 0)
          (sym (c.in_ok-window.ensures ∙ ap (λ n. window_of [] n c.args.room) c.least.ensures.least))
          (task_begins p c.start-walk.result c.args.room near c.requires.some_room c.start-walk.ensures.place
          c.start-walk.ensures.hits c.start-walk.ensures.reads few);
    }
