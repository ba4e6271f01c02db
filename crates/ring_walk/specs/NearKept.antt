-- What is true of the fields of a near query on a version.
-- No public clause cites this module.
use Rattle.std.specs.Prelude.{◌≡◌, ℕ, List, length}
use Rattle.shard_probe.specs.Counted.{HasCounts}
use Rattle.ring_walk.specs.NearPlanned.{NearPlanned, IsNearPlanned, near_bits, near_parts}
use Rattle.ring_walk.specs.NearPlanned.{near_counts}

-- a near query on a version, and the counts of its rows at all radii
pub record IsNearKept (words : ℕ) (plan : NearPlanned) (tau parts : ℕ) (counts : List ℕ)
    : Type 0 where
  pub planned : IsNearPlanned words plan
  pub tau_is : tau ≡ near_bits plan
  pub parts_are : parts ≡ length (near_parts plan)
  pub counts_are : HasCounts counts tau parts (near_counts plan)
