use Rattle.std.proofs.Common.{arith}
use Rattle.knn_task.proofs.KeepLemmas.{room_for}
use Rattle.knn_task.proofs.settling.keep.Goals as goal

pub push-requires : goal.push-requires
push-requires g c = record {
  reserved = room_for c.args.plan.now c.args.walk.now.units c.args.run.now c.loop-posting.posting-index c.posting-item.result (omega arith)
      c.posting-item.is c.new_hit.result c.new_hit.ensures c.args.window.now c.loop-posting.window c.loop-posting.invariant c.in-Some.hit c.in-Some.is
      c.requires.room;
}
