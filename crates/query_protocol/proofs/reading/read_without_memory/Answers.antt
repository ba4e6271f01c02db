use Rattle.std.proofs.Common.{rules}
use Rattle.query_protocol.proofs.reading.read_without_memory.Goals as goal

pub returns-in-Some-NextWord : goal.returns-in-Some-NextWord
returns-in-Some-NextWord g c = record {
  reads = search (rules, c.read_next.ensures.reads c.args.config.now.bits);
  shard = c.read_next.ensures.shard c.args.config.now.shards;
}

pub returns-in-Some-PlanWord : goal.returns-in-Some-PlanWord
returns-in-Some-PlanWord g c = record {
  reads = search (rules, c.read_plan.ensures.reads c.args.config.now.bits);
  shard = c.read_plan.ensures.shard;
}

pub returns-in-Some-LayoutWord : goal.returns-in-Some-LayoutWord
returns-in-Some-LayoutWord g c = record {
  reads = search (rules, c.read_layout.ensures.reads c.args.config.now.bits);
  shard = c.read_layout.ensures.shard;
}

pub returns-in-Some-QuitWord : goal.returns-in-Some-QuitWord
returns-in-Some-QuitWord g c = record {
  reads = search (rules, c.read_quit.ensures.reads c.args.config.now.bits);
  shard = c.read_quit.ensures.shard c.args.config.now.shards;
}

pub returns-in-Some-BuildWord : goal.returns-in-Some-BuildWord
returns-in-Some-BuildWord g c = record {
  reads = search (rules, c.read_build.ensures.reads c.args.config.now.bits);
  shard = c.read_build.ensures.shard c.args.config.now.shards;
}

pub returns-in-Some-SwapWord : goal.returns-in-Some-SwapWord
returns-in-Some-SwapWord g c = record {
  reads = search (rules, c.read_swap.ensures.reads c.args.config.now.bits);
  shard = c.read_swap.ensures.shard c.args.config.now.shards;
}

pub returns-in-Some-SearchWord : goal.returns-in-Some-SearchWord
returns-in-Some-SearchWord g c = record {
  reads = search (rules, c.read_search.ensures.reads c.args.config.now.bits);
  shard = c.read_search.ensures.shard;
}
