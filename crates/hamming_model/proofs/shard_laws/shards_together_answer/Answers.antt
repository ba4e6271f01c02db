-- The lemmas on the shards of some rows.
use Rattle.hamming_model.proofs.ShardLemmas.{merged_is_scan, numbers_add_up}
use Rattle.hamming_model.proofs.shard_laws.shards_together_answer.Goals as goal

pub returns : goal.returns
returns c = record { merged = merged_is_scan; number = numbers_add_up }
