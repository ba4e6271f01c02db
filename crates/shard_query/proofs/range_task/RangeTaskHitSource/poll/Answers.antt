-- A poll is units of work, which stop before the budget only where none can be done; and the query is lawful.
use Rattle.std.proofs.Common.{◌≡◌, ◌+◌, ◌-◌, ◌∙◌, None, refl, subst, arith, inl, inr}
use Rattle.hit_source.specs.Work.{Works}
use Rattle.hit_source.proofs.WorkLemmas.{works_again, polls_by_range}
use Rattle.shard_query.specs.TaskLaw.{task_lawful}
use Rattle.shard_query.specs.Tasks.{standing_of}
use Rattle.shard_query.proofs.UnitLemmas.{asked_alike}
use Rattle.shard_query.proofs.range_task.RangeTaskHitSource.poll.Goals as goal

pub returns-then-done-eq0-clause-polls : goal.returns-then-done-eq0-clause-polls
returns-then-done-eq0-clause-polls g c =
    let e = c.work-done.ensures in
    polls_by_range c.args.budget (c.args.budget - c.loop-left.left + c.work-done.result) _ _ _ _ _ _ _ c.requires.budget c.requires.none_waits
    (asked_alike _ _ _ _ (e.plan ∙ c.loop-left.invariant.0) (e.room ∙ c.loop-left.invariant.1)) refl
    (works_again None (c.args.budget - c.loop-left.left) c.work-done.result _ _ _ _ _ _ c.loop-left.invariant.3 e.works)
    (omega (arith, e.few, c.loop-left.invariant.2)) (inr (e.stops c.if-done-eq0.true)) c.judged.ensures

pub returns-then-done-eq0-clause-lawful : goal.returns-then-done-eq0-clause-lawful
returns-then-done-eq0-clause-lawful g c =
    task_lawful c.work-done.new.self.plan c.work-done.new.self.walk c.work-done.new.self.window c.work-done.new.self.reads
    c.work-done.new.self.kept

pub loop-left-preserved : goal.loop-left-preserved
loop-left-preserved g c =
    let e = c.work-done.ensures in
    let own = c.args.self.now in
    let new = c.work-done.new.self in
    let count : c.args.budget - c.loop-left.left + c.work-done.result ≡ c.args.budget - (c.loop-left.left - c.work-done.result) =
    omega (arith, e.few, c.loop-left.invariant.2) in (
      e.plan ∙ c.loop-left.invariant.0,
      e.room ∙ c.loop-left.invariant.1,
      omega (arith, c.loop-left.invariant.2),
      subst
          (λ n. Works None n (standing_of own.plan own.walk own.window own.reads) (standing_of new.plan new.walk new.window new.reads)
          c.args.steps.now c.work-done.new.steps) count
          (works_again None (c.args.budget - c.loop-left.left) c.work-done.result _ _ _ _ _ _ c.loop-left.invariant.3 e.works),
    )

pub returns-clause-lawful : goal.returns-clause-lawful
returns-clause-lawful g c =
    task_lawful c.loop-left.self.plan c.loop-left.self.walk c.loop-left.self.window c.loop-left.self.reads
    c.loop-left.self.kept
