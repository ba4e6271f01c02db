-- Each query has as many sources as there are shards.
use Rattle.query_requests.proofs.FrameLemmas.{have_shard}
use Rattle.query_requests.proofs.asking.every_query_has_shard.Goals as goal

pub returns : goal.returns
returns g c = have_shard c.args.config.now.shards c.args.queries.now c.args.shard c.requires.shard c.requires.shards
