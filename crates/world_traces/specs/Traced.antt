-- What a world of its own answers to the lines of a trace, and what its queries read.
use Rattle.std.specs.Prelude.{◌≡◌, ℕ, ◌+◌, ◌≤◌, List, slice_index}
use Rattle.part_layout.specs.Contiguous.{contiguous}
use Rattle.part_layout.specs.Laid.{Laid}
use Rattle.part_layout.specs.declared.config.Config.{Config}
use Rattle.session_model.specs.Ledger.{Ledgers}
use Rattle.trace_lines.specs.Traces.{IsTrace}
use Rattle.world_model.specs.Events.{Setting}
use Rattle.world_model.specs.Ledgers.{IsSumOfBounds, reads_on}
use Rattle.world_model.specs.WorldState.{WorldState, new_world}

-- the setting of the world of a trace
abbrev pub setting_for : Config → Setting
setting_for config = record {
  bits = config.bits;
  shards = config.shards;
  room = config.room;
  limit = config.entries;
}

-- the layout in which every shard begins
abbrev pub first_layout : Config → Laid
first_layout config =
    record { bits = config.bits; parts = contiguous config.bits config.parts }

-- the world of a trace before its first line
abbrev pub first_world : Config → WorldState
first_world config = new_world (setting_for config) (first_layout config)

-- each ledger rose by what the queries have read on its shard, which is at most their bounds there
pub record CountsReads (z : Setting) (t : WorldState) (old new : Ledgers) : Type 0 where
  pub each : (shard : ℕ) → slice_index new.reads shard
      ≡ slice_index old.reads shard + reads_on shard t.queries
  pub within : (shard : ℕ) → (sum : ℕ) × IsSumOfBounds z t.history shard t.queries sum
      × (reads_on shard t.queries ≤ sum)

-- a world that began so has answered these lines by these texts, stands in this state, and the
-- ledgers rose by what its queries have read
pub record IsTraced (config : Config) (last : WorldState) (old new : Ledgers)
    (lines texts : List (List ℕ)) : Type 0 where
  pub trace : IsTrace (setting_for config) (first_world config) lines texts last
  pub reads : CountsReads (setting_for config) last old new
