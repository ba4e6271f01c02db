-- What a server may be asked for: the range of each number.
use Rattle.std.specs.Prelude.{◌≡◌, ◌%◌, ◌≤◌}
use Rattle.hamming_model.specs.declared.limits.TheConstants.{BITS_MOST, SHARDS_MOST, ROOM_MOST, ENTRIES_MOST}
use Rattle.part_layout.specs.Contiguous.{CanBeCut}
use Rattle.part_layout.specs.declared.config.Config.{Config}
use Rattle.part_layout.specs.declared.config.TheConstants.{INPUT_MOST}

-- each number is in its range, and the bits can be cut into the parts
pub record IsConfig (config : Config) : Type 0 where
  pub least_bits : 8 ≤ config.bits
  pub greatest_bits : config.bits ≤ BITS_MOST
  pub whole_bytes : config.bits % 8 ≡ 0
  pub cut : CanBeCut config.bits config.parts
  pub some_shards : 1 ≤ config.shards
  pub few_shards : config.shards ≤ SHARDS_MOST
  pub some_room : 1 ≤ config.room
  pub small_room : config.room ≤ ROOM_MOST
  pub some_entries : 1 ≤ config.entries
  pub few_entries : config.entries ≤ ENTRIES_MOST
  pub least_input : 1 ≤ config.input
  pub greatest_input : config.input ≤ INPUT_MOST
