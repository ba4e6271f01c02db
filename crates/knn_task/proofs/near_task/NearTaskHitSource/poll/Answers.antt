-- A poll is units of work, which stop before the budget only where the query is held; and the query is lawful.
use Rattle.std.specs.Prelude.{Some}
use Rattle.std.proofs.Common.{◌-◌, ◌∙◌, refl, sym, arith, inl, inr}
use Rattle.knn_task.proofs.TaskLemmas.{lawful_task, works_from, works_on}
use Rattle.knn_task.proofs.NearWorkLemmas.{polls_by_near_work, polls_ended, under_floor, asked_alike}
use Rattle.knn_task.proofs.near_task.NearTaskHitSource.poll.Goals as goal

pub returns-in_default-clause-lawful : goal.returns-in_default-clause-lawful
returns-in_default-clause-lawful g c = lawful_task c.args.self.now

pub returns-in_default-clause-polls : goal.returns-in_default-clause-polls
returns-in_default-clause-polls g c =
    polls_ended c.args.budget _ _ c.args.steps.now c.requires.none_waits
    ((lawful_task c.args.self.now).floor.none_left.0 (sym c.floor.ensures ∙ c.in_default.is)).1

pub loop-left-init : goal.loop-left-init
loop-left-init g c = (
  refl,
  refl,
  omega arith,
  works_from (Some c.in-Some.limit) c.args.budget _ c.args.steps.now,
  under_floor _ _ _ _ _ _ c.args.self.now.kept c.args.self.now.rings.kept.ring c.in-Some.limit (sym c.floor.ensures ∙ c.in-Some.is),
)

pub returns-then-done-eq0-clause-asked : goal.returns-then-done-eq0-clause-asked
returns-then-done-eq0-clause-asked g c =
    asked_alike _ _ _ _ (c.work-done.ensures.search ∙ c.loop-left.invariant.0) (c.work-done.ensures.room ∙ c.loop-left.invariant.1)

pub returns-then-done-eq0-clause-polls : goal.returns-then-done-eq0-clause-polls
returns-then-done-eq0-clause-polls g c =
    polls_by_near_work c.args.budget (c.args.budget - (c.loop-left.left - c.work-done.result)) c.in-Some.limit _ _ _ _ _ _ _ c.requires.budget
    c.requires.none_waits (sym c.floor.ensures ∙ c.in-Some.is) (returns-then-done-eq0-clause-asked g c)
    (works_on (Some c.in-Some.limit) c.args.budget c.loop-left.left c.work-done.result _ _ _ _ _ _ c.work-done.ensures.few c.loop-left.invariant.2
    c.loop-left.invariant.3 c.work-done.ensures.works)
    (omega arith) (inr (c.work-done.ensures.stops c.if-done-eq0.true)) c.judged.ensures

pub returns-then-done-eq0-clause-lawful : goal.returns-then-done-eq0-clause-lawful
returns-then-done-eq0-clause-lawful g c = lawful_task c.work-done.new.self

pub loop-left-preserved : goal.loop-left-preserved
loop-left-preserved g c = (
  c.work-done.ensures.search ∙ c.loop-left.invariant.0,
  c.work-done.ensures.room ∙ c.loop-left.invariant.1,
  omega (arith, c.loop-left.invariant.2),
  works_on (Some c.in-Some.limit) c.args.budget c.loop-left.left c.work-done.result _ _ _ _ _ _ c.work-done.ensures.few c.loop-left.invariant.2
      c.loop-left.invariant.3 c.work-done.ensures.works,
  c.work-done.ensures.under,
)

pub returns-clause-asked : goal.returns-clause-asked
returns-clause-asked g c = asked_alike _ _ _ _ c.loop-left.invariant.0 c.loop-left.invariant.1

pub returns-clause-polls : goal.returns-clause-polls
returns-clause-polls g c =
    polls_by_near_work c.args.budget (c.args.budget - c.loop-left.left) c.in-Some.limit _ _ _ _ _ _ _ c.requires.budget c.requires.none_waits
    (sym c.floor.ensures ∙ c.in-Some.is) (returns-clause-asked g c) c.loop-left.invariant.3 (omega arith)
    (inl (omega (arith, c.loop-left-test.false, c.loop-left.invariant.2))) c.judged-2.ensures

pub returns-clause-lawful : goal.returns-clause-lawful
returns-clause-lawful g c = lawful_task c.loop-left.self
