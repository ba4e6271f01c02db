-- The next radius was begun, and where its ring has nothing it is settled at once.
use Rattle.std.proofs.Common.{rules}
use Rattle.knn_task.proofs.StepLemmas.{begin_as, radius_left}
use Rattle.knn_task.proofs.near_task.NearTask.begin.Goals as goal

pub begin-requires : goal.begin-requires
begin-requires g c = (
  search rules,
  (
    c.requires.done,
    radius_left _ _ _ _ _ _ c.args.self.now.kept c.args.self.now.rings.kept.ring c.requires.done c.requires.more,
  ),
)

pub invariant_of-self : goal.invariant_of-self
invariant_of-self g c = record {
  kept = (begin_as _ _ _ _ _ _ _ _ _ _ _ c.begin.ensures.search c.begin.ensures.begun c.args.self.now.kept c.args.self.now.rings.kept.ring
      c.begin.new.self.kept.ring c.args.limit c.args.steps.now c.requires.under c.requires.done c.requires.more c.requires.near
      c.begin.ensures.begins _ _ _ _ c.rows.ensures c.bits.ensures.bits c.begun.ensures c.left.ensures c.settle_ring-self.ensures).0;
}

pub returns-clause-works : goal.returns-clause-works
returns-clause-works g c =
    (begin_as _ _ _ _ _ _ _ _ _ _ _ c.begin.ensures.search c.begin.ensures.begun c.args.self.now.kept c.args.self.now.rings.kept.ring
    c.begin.new.self.kept.ring c.args.limit c.args.steps.now c.requires.under c.requires.done c.requires.more c.requires.near
    c.begin.ensures.begins _ _ _ _ c.rows.ensures c.bits.ensures.bits c.begun.ensures c.left.ensures c.settle_ring-self.ensures).1

pub returns-clause-under : goal.returns-clause-under
returns-clause-under g c =
    (begin_as _ _ _ _ _ _ _ _ _ _ _ c.begin.ensures.search c.begin.ensures.begun c.args.self.now.kept c.args.self.now.rings.kept.ring
    c.begin.new.self.kept.ring c.args.limit c.args.steps.now c.requires.under c.requires.done c.requires.more c.requires.near
    c.begin.ensures.begins _ _ _ _ c.rows.ensures c.bits.ensures.bits c.begun.ensures c.left.ensures c.settle_ring-self.ensures).2
