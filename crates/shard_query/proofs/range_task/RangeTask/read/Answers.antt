-- The hits of the run are kept, and after the last posting the hits are the answer.
use Rattle.std.proofs.Common.{◌≡◌, ◌+◌, ◌≤◌, length, sym, ap, ◌∙◌, refl, arith, rules}
use Rattle.hit_source.specs.Windows.{Window}
use Rattle.shard_walk.specs.Planned.{parts_of, planned_query}
use Rattle.shard_walk.specs.Walks.{rows_left}
use Rattle.shard_query.proofs.TaskLemmas.{run_fits, run_on, run_last}
use Rattle.shard_query.proofs.UnitLemmas.{search_works}
use Rattle.shard_query.proofs.range_task.RangeTask.read.Goals as goal

pub keep-requires : goal.keep-requires
keep-requires g c =
    let own = c.args.self.now in
    let e = c.read-run.ensures in (
      search rules,
      (
        search rules,
        (
          e.stored,
          run_fits own.plan own.walk c.read-run.new.self own.window own.reads own.kept c.requires.more e.place c.read-run.result.now
              c.part-part.result _ c.part-part.ensures refl e.hits e.reads,
        ),
      ),
    )

pub invariant_of-self : goal.invariant_of-self
invariant_of-self g c =
    let own = c.args.self.now in
    let e = c.read-run.ensures in
    let few = c.hits_are_few.ensures.of_parts (parts_of own.plan) own.plan.thresholds (planned_query own.plan) own.plan.tau c.read-run.new.self.part
    (rows_left own.plan c.read-run.new.self) in
    record {
      kept = run_last own.plan own.walk c.read-run.new.self own.window own.reads own.kept c.requires.more e.place c.read-run.result.now
          c.part-part.result c.from.result c.part-part.ensures c.from.ensures e.hits e.reads c.keep.new.window c.keep.ensures few
          (c.if-self-least.true ∙ c.least-least.ensures.least) c.sort.new.self c.sort.ensures.sorted;
    }

pub invariant_of-self-else-self-least : goal.invariant_of-self-else-self-least
invariant_of-self-else-self-least g c =
    let own = c.args.self.now in
    let e = c.read-run.ensures in
    record {
      kept = run_on own.plan own.walk c.read-run.new.self own.window own.reads own.kept c.requires.more e.place c.read-run.result.now
          c.part-part.result c.from.result c.part-part.ensures c.from.ensures e.hits e.reads c.keep.new.window c.keep.ensures
          (λ last. c.if-self-least.false (last ∙ sym c.least-least.ensures.least));
    }

pub returns-else-self-least-clause-works : goal.returns-else-self-least-clause-works
returns-else-self-least-clause-works g c =
    let own = c.args.self.now in
    let e = c.read-run.ensures in
    let left = (own.kept.search c.requires.more).left in
    let some : 1 ≤ length c.read-run.result.now = omega (arith, e.number, c.requires.posting, c.requires.some) in
    search_works own.plan own.walk c.read-run.new.self own.window c.keep.new.window own.reads (own.reads + c.from.result)
    c.args.steps.now c.read-run.new.steps (length c.read-run.result.now) own.kept c.requires.more some
    (ap (λ (w : Window). w.given) c.keep.ensures) (ap (λ (w : Window). w.moved) c.keep.ensures) (omega arith) (omega (arith, c.from.ensures))
    (omega (arith, c.from.ensures, e.steps)) (omega (arith, c.from.ensures, e.values, e.reads, left))
