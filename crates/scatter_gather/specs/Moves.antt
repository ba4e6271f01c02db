-- What the calls of a gathering do to where it stands.
use Rattle.std.specs.Prelude.{◌≡◌, ℕ, ◌+◌, ◌≤◌, ◌<◌, List, length, Option, Some, None, slice_index, slice_index_or, slice_set, map}
use Rattle.std.specs.Option.{MatchOption}
use Rattle.hamming_model.specs.declared.hit.Hit.{Hit}
use Rattle.hit_source.specs.declared.polled.Polled.{Polled}
use Rattle.hit_source.specs.Sources.{Asked, Standing}
use Rattle.hit_source.specs.Moves.{Polls, Pops, BeginsWithin}
use Rattle.scatter_gather.specs.Gathering.{Gathered, gathered, seen, next_hit}
use Rattle.scatter_gather.specs.Kept.{IsUpTo}

-- one source was polled, on its own ledger, and nothing else changed
pub record PollsOne {S : Type 0} (asks : S → Asked) (stands : S → Standing) (budget shard : ℕ)
    (old new : Gathered S)
    (from to : List ℕ) (result : Polled) : Type 0 where
  pub asked : (d : S)
      → asks (slice_index_or new.sources shard d) ≡ asks (slice_index_or old.sources shard d)
  pub polls : (d : S) → Polls budget (asks (slice_index_or old.sources shard d))
      (stands (slice_index_or old.sources shard d)) (stands (slice_index_or new.sources shard d))
      (slice_index from shard) (slice_index to shard) result
  pub others : (d : S) → new
      ≡ gathered (slice_set old.sources shard (slice_index_or new.sources shard d)) old.limit
      old.given old.last
  pub ledgers : to ≡ slice_set from shard (slice_index to shard)

-- the next hit was given, by one source, and nothing else changed
pub record GivesOne {S : Type 0} (asks : S → Asked) (stands : S → Standing) (shard : ℕ)
    (old new : Gathered S)
    (hit : Hit) : Type 0 where
  pub within : shard < length old.sources
  pub asked : (d : S)
      → asks (slice_index_or new.sources shard d) ≡ asks (slice_index_or old.sources shard d)
  pub pops : (d : S) → Pops (stands (slice_index_or old.sources shard d))
      (stands (slice_index_or new.sources shard d)) (Some hit)
  pub others : (d : S) → new
      ≡ gathered (slice_set old.sources shard (slice_index_or new.sources shard d))
      old.limit (old.given + 1) (Some hit.dist)

-- what giving the next hit does: where none is given nothing changes
abbrev pub GivesReady : {S : Type 0} → (S → Asked) → (S → Standing) → Gathered S → Gathered S
    → Option Hit → Type 0
GivesReady asks stands old new None = new ≡ old
GivesReady {S} asks stands old new (Some hit) = (shard : ℕ) × GivesOne asks stands shard old new hit

-- the reads of no source fall, each ledger rises by those of its source, and the ledgers past the
-- sources stay
pub record ReadsRise {S : Type 0} (stands : S → Standing) (old new : List S)
    (from to : List ℕ) : Type 0 where
  pub count : length new ≡ length old
  pub at : (i : ℕ) (d : S) → i < length old
      → slice_index to i + (stands (slice_index_or old i d)).reads
      ≡ slice_index from i + (stands (slice_index_or new i d)).reads
  pub rises : (i : ℕ) (d : S) → i < length old
      → (stands (slice_index_or old i d)).reads ≤ (stands (slice_index_or new i d)).reads
  pub beyond : (i : ℕ) → length old ≤ i → slice_index to i ≡ slice_index from i

-- sources were polled and gave no hit
pub record Waited {S : Type 0} (asks : S → Asked) (stands : S → Standing) (old new : Gathered S)
    (from to : List ℕ)
    : Type 0 where
  pub asked : map asks new.sources ≡ map asks old.sources
  pub limit : new.limit ≡ old.limit
  pub given : new.given ≡ old.given
  pub last : new.last ≡ old.last
  pub ledgers : ReadsRise stands old.sources new.sources from to

-- sources were polled, and the hit was given, if it is one
pub record Gave {S : Type 0} (asks : S → Asked) (stands : S → Standing) (old new : Gathered S)
    (from to : List ℕ)
    (result : Option Hit) : Type 0 where
  pub asked : map asks new.sources ≡ map asks old.sources
  pub limit : new.limit ≡ old.limit
  pub given : MatchOption result (new.given ≡ old.given) (λ hit. new.given ≡ old.given + 1)
  pub last : MatchOption result (new.last ≡ old.last) (λ hit. new.last ≡ Some hit.dist)
  pub ledgers : ReadsRise stands old.sources new.sources from to

-- a call that changed no source but the vector of its plan
pub record Looks {S : Type 0} (asks : S → Asked) (stands : S → Standing)
    (old new : Gathered S) : Type 0 where
  pub asked : map asks new.sources ≡ map asks old.sources
  pub standing : map stands new.sources ≡ map stands old.sources
  pub stays : new ≡ gathered new.sources old.limit old.given old.last

-- the distance of a hit, if it is one
abbrev pub distance_of : Option Hit → Option ℕ
distance_of None = None
distance_of (Some hit) = Some hit.dist

-- the radius that each source began last is the one before, or at most so far
pub record BeginsUpTo {S : Type 0} (stands : S → Standing) (most : Option ℕ)
    (old new : List S) : Type 0 where
  pub at : (i : ℕ) (d : S) → i < length old
      → BeginsWithin most (stands (slice_index_or old i d)).begun
      (stands (slice_index_or new i d)).begun

-- no source began a radius above the distance of the next hit
abbrev pub BeginsForNext : {S : Type 0} → (S → Asked) → (S → Standing) → Gathered S
    → Gathered S → Type 0
BeginsForNext asks stands old new =
    BeginsUpTo stands (distance_of (next_hit (seen asks stands old))) old.sources new.sources

-- no source began a radius above the distance of the last hit
pub record BegunWithin {S : Type 0} (stands : S → Standing) (last : Option ℕ)
    (sources : List S) : Type 0 where
  pub at : (i : ℕ) (d : S) → i < length sources
      → IsUpTo (stands (slice_index_or sources i d)).begun last
