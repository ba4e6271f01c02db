-- The lemmas on the greatest radius.
use Rattle.hamming_model.proofs.ShardLemmas.{near_has_all, nearest}
use Rattle.hamming_model.proofs.shard_laws.every_row_is_within_all_bits.Goals as goal

pub returns : goal.returns
returns c = record { all = near_has_all; nearest = nearest }
