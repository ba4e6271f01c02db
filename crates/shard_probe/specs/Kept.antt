-- What is true of the fields of a query on a version. No public clause cites this module.
use Rattle.std.specs.Prelude.{◌≡◌, ℕ, ◌<◌, List, [], length, slice_index, slice_index_or}
use Rattle.hamming_model.specs.Layouts.{part_value}
use Rattle.shard_probe.specs.Probed.{Probed, IsProbed, parts_in, code_in}

-- the values of a code at the parts
pub record AreValues (parts : List (List ℕ)) (query values : List ℕ) : Type 0 where
  pub number : length values ≡ length parts
  pub each : (part : ℕ) → part < length parts →
      slice_index values part ≡ part_value query (slice_index_or parts part [])

-- a query on a version, and its values at the parts
pub record IsProbe (words : ℕ) (probe : Probed) (values : List ℕ) : Type 0 where
  pub probed : IsProbed words probe
  pub values_are : AreValues (parts_in probe.version) (code_in probe.version probe.stored) values
