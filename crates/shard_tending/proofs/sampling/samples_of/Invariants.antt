-- What the loop keeps: a sample of each of the first rows.
use Rattle.std.proofs.Common.{◌≡◌, map, take}
use Rattle.shard_tending.proofs.SampleLemmas.{stored_sample}
use Rattle.shard_tending.proofs.sampling.samples_of.Given as goal

abbrev pub invariant-loop-at : goal.invariant-loop-at
invariant-loop-at g l = l.samples.items ≡ map stored_sample (take l.at l.rows.items)
