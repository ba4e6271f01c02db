-- The lemmas on ledgers.
use Rattle.world_model.proofs.LedgerLemmas.{step_reads, sum_within}
use Rattle.world_model.proofs.laws.reads_are_bounded.Goals as goal

pub returns-clause-others : goal.returns-clause-others
returns-clause-others c = λ z s shard event answer t is quiet step. step_reads z s is shard event answer t quiet step

pub returns-clause-within : goal.returns-clause-within
returns-clause-within c = λ z s shard is. sum_within z s.history shard s.queries is.queries
