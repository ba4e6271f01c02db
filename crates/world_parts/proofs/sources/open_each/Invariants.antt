-- What the loop keeps: a source was opened on each of the first shards.
use Rattle.world_parts.specs.Pinned.{AreOpened, pinned_with}
use Rattle.world_parts.proofs.sources.open_each.Given as goal

abbrev pub invariant-loop-shard : goal.invariant-loop-shard
invariant-loop-shard g l = AreOpened l.room l.ask (pinned_with l.pins l.place l.version) l.sources.items l.shard
