-- Ledgers that rise by what the sources of queries read.
use Rattle.std.specs.Prelude.{◌≡◌, ℕ, ◌+◌, List, slice_index}
use Rattle.world_model.specs.Ledgers.{reads_on}
use Rattle.world_model.specs.WorldState.{WorldState}

-- the ledger of each shard rises by exactly what the sources of all queries read there
pub record RiseByReads (old new : WorldState) (from to : List ℕ) : Type 0 where
  pub at : (shard : ℕ) → slice_index to shard + reads_on shard old.queries
      ≡ slice_index from shard + reads_on shard new.queries
