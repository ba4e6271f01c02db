-- A build along a history.
use Rattle.std.proofs.Common.{◌≡◌, ℕ, List, take, sym, ap, ◌∙◌}
use Rattle.std.specs.Prelude.{Option}
use Rattle.hamming_model.specs.History.{JournalEntry, rows_of, shard_rows}
use Rattle.hamming_model.specs.Recoded.{cut_history}
use Rattle.shard_version.specs.Contents.{Contents}
use Rattle.versioned_shard.specs.Along.{Follows}
use Rattle.versioned_shard.specs.Rule.{KeepsRule}
use Rattle.versioned_shard.specs.Shards.{MayStandIn, ShardState}
use Rattle.repartitioner.specs.Builds.{IsOfShard}

-- the rows of a shard's first so many entries, cut to so many bits
abbrev rows_at : List JournalEntry → ℕ → ℕ → ℕ → ℕ → List (ℕ × List ℕ)
rows_at history shard shards bits at = shard_rows shard shards (rows_of (take at (cut_history bits history)))

-- a build of a shard has its rows where it stands at its position
pub stands_in : (live : ℕ → Option ℕ) (history : List JournalEntry) (shard : ShardState) (build : Contents) → KeepsRule live history shard
    → Follows history build → IsOfShard shard build → MayStandIn shard build
stands_in live history shard build rule follows is = record {
  shard_is = is.shard_is;
  shards_is = is.shards_are;
  bits_are = is.bits_are;
  rows_are = λ (same : build.at ≡ shard.current.at).
      ap (λ (version : Contents). version.rows) follows.is
      ∙ ap (λ (n : ℕ). rows_at history n build.shards build.layout.bits build.at) is.shard_is
      ∙ ap (λ (n : ℕ). rows_at history shard.current.shard n build.layout.bits build.at) is.shards_are
      ∙ ap (λ (n : ℕ). rows_at history shard.current.shard shard.current.shards n build.at) is.bits_are
      ∙ ap (λ (n : ℕ). rows_at history shard.current.shard shard.current.shards shard.current.layout.bits n) same
      ∙ sym (ap (λ (version : Contents). version.rows) rule.current.is);
}
