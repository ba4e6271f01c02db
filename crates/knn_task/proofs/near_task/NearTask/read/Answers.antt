-- Postings of the ring were read, and where the last one was among them the ring is settled.
use Rattle.std.proofs.Common.{rules}
use Rattle.knn_task.proofs.NearLemmas.{room_left}
use Rattle.knn_task.proofs.StepLemmas.{read_as}
use Rattle.knn_task.proofs.near_task.NearTask.read.Goals as goal

pub read-count-requires : goal.read-count-requires
read-count-requires g c = (
  search rules,
  (
    c.requires.some,
    (c.requires.posting, room_left _ _ _ _ _ _ c.args.self.now.kept.kept c.args.self.now.rings.kept.ring),
  ),
)

pub invariant_of-self : goal.invariant_of-self
invariant_of-self g c = record {
  kept = (read_as _ _ _ _ _ _ _ _ _ _ _ _ c.read-count.ensures.search c.read-count.ensures.begun c.args.self.now.kept c.args.self.now.rings.kept.ring
      c.read-count.new.self.kept.ring c.requires.more c.args.limit c.args.steps.now c.read-count.new.steps c.read-count.result c.from.result
      c.read-count.ensures.some c.from.ensures c.requires.under c.read-count.ensures.hits c.read-count.ensures.reads c.read-count.ensures.total
      c.read-count.ensures.values c.read-count.ensures.steps _ _ _ _ c.rows.ensures c.bits.ensures.bits c.begun.ensures c.left.ensures
      c.settle_ring-self.ensures).0;
}

pub returns-clause-works : goal.returns-clause-works
returns-clause-works g c =
    (read_as _ _ _ _ _ _ _ _ _ _ _ _ c.read-count.ensures.search c.read-count.ensures.begun c.args.self.now.kept c.args.self.now.rings.kept.ring
    c.read-count.new.self.kept.ring c.requires.more c.args.limit c.args.steps.now c.read-count.new.steps c.read-count.result c.from.result
    c.read-count.ensures.some c.from.ensures c.requires.under c.read-count.ensures.hits c.read-count.ensures.reads c.read-count.ensures.total
    c.read-count.ensures.values c.read-count.ensures.steps _ _ _ _ c.rows.ensures c.bits.ensures.bits c.begun.ensures c.left.ensures
    c.settle_ring-self.ensures).1

pub returns-clause-under : goal.returns-clause-under
returns-clause-under g c =
    (read_as _ _ _ _ _ _ _ _ _ _ _ _ c.read-count.ensures.search c.read-count.ensures.begun c.args.self.now.kept c.args.self.now.rings.kept.ring
    c.read-count.new.self.kept.ring c.requires.more c.args.limit c.args.steps.now c.read-count.new.steps c.read-count.result c.from.result
    c.read-count.ensures.some c.from.ensures c.requires.under c.read-count.ensures.hits c.read-count.ensures.reads c.read-count.ensures.total
    c.read-count.ensures.values c.read-count.ensures.steps _ _ _ _ c.rows.ensures c.bits.ensures.bits c.begun.ensures c.left.ensures
    c.settle_ring-self.ensures).2
