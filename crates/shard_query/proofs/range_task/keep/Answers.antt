use Rattle.std.proofs.Common.{arith}
use Rattle.shard_query.proofs.KeepLemmas.{room_for}
use Rattle.shard_query.proofs.range_task.keep.Goals as goal

pub push-requires : goal.push-requires
push-requires g c = record {
  reserved = room_for c.args.plan.now c.args.part c.args.run.now c.loop-posting.posting-index c.posting-item.result (omega arith) c.posting-item.is
      c.kept.result c.kept.ensures c.args.window.now c.loop-posting.window c.loop-posting.invariant c.in-Some.hit c.in-Some.is c.requires.room;
}
