-- What an event counts on the ledgers of queries.
use Rattle.std.specs.Prelude.{◌≡◌, ℕ, ◌+◌, List, slice_index}
use Rattle.world_model.specs.Ledgers.{reads_on}
use Rattle.world_model.specs.WorldState.{WorldState}

-- the ledger of each shard rises by what the queries read there from one state to another
pub record CountsBetween (old new : WorldState) (from to : List ℕ) : Type 0 where
  pub each : (shard : ℕ) → slice_index to shard + reads_on shard old.queries
      ≡ slice_index from shard + reads_on shard new.queries
