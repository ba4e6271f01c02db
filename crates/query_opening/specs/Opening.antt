-- What a query is opened on: for each shard a source over its rows at one position.
use Rattle.std.specs.Prelude.{◌≡◌, ℕ, ◌<◌, ◌≤◌, Bool, true, false, List, length, take, slice_index_or}
use Rattle.hamming_model.specs.Codes.{StandsFor}
use Rattle.hamming_model.specs.History.{rows_of}
use Rattle.shard_version.specs.Contents.{Contents}
use Rattle.hit_source.specs.Sources.{Asked, Standing}
use Rattle.shard_query.specs.Opening.{AsksRange, BeginsRange, opened_code}
use Rattle.knn_task.specs.Opening.{AsksNear, BeginsNear}
use Rattle.session_desk.specs.Desks.{DeskState, seen_history}
use Rattle.query_opening.specs.Pinning.{IsPinnedShard}
use Rattle.query_opening.specs.declared.wanted.Wanted.{Wanted}
use Rattle.query_opening.specs.declared.wanted.Wanted.TheVariants.{Within, Nearest}

-- the radius that is wanted, and 0 where all rows are
abbrev pub wanted_radius : Wanted → ℕ
wanted_radius (Within tau) = tau
wanted_radius Nearest = 0

-- whether all rows are wanted, nearest first
abbrev pub is_nearest : Wanted → Bool
is_nearest (Within tau) = false
is_nearest Nearest = true

-- what a query that wants this is asked of a version, where so many hits may wait
abbrev pub AsksWanted : Wanted → Contents → List ℕ → ℕ → Asked → Type 0
AsksWanted (Within tau) version query room a = AsksRange version query tau room a
AsksWanted Nearest version query room a = AsksNear version query room a

-- a query that wants this has read and given nothing yet
abbrev pub BeginsWanted : Wanted → Contents → List ℕ → Asked → Standing → Type 0
BeginsWanted (Within tau) version query a s = BeginsRange version a s
BeginsWanted Nearest version query a s = BeginsNear version query s

-- a source is a query on a version, of which nothing was read or given
pub record IsSourceOn (wanted : Wanted) (version : Contents) (query : List ℕ) (room : ℕ)
    (a : Asked) (s : Standing) : Type 0 where
  pub asks : AsksWanted wanted version query room a
  pub begins : BeginsWanted wanted version query a s

-- a source is a query on the version of a shard that was pinned at a position
pub record IsSourceOfShard (old new : DeskState) (position shard : ℕ) (wanted : Wanted)
    (query : List ℕ) (room : ℕ) (a : Asked) (s : Standing) : Type 0 where
  pub version : Contents
  pub pinned : IsPinnedShard old new position shard version
  pub source_is : IsSourceOn wanted version query room a s

-- every shard was pinned at one position, where there are so many rows, and has a source there
pub record OpensSources {S : Type 0} (asks : S → Asked) (stands : S → Standing)
    (old new : DeskState) (position rows : ℕ) (wanted : Wanted) (query : List ℕ) (room : ℕ) (sources : List S)
    : Type 0 where
  pub last : new.last ≡ position
  pub after : length old.seen ≤ position
  pub within : position ≤ length new.seen
  pub rows_are : rows ≡ length (rows_of (take position (seen_history new)))
  pub number : length sources ≡ old.config.shards
  pub each : (shard : ℕ) (source : S) → shard < old.config.shards
      → IsSourceOfShard old new position shard wanted query room
      (asks (slice_index_or sources shard source)) (stands (slice_index_or sources shard source))

-- the words of a query stand for a code of a version's bits, and its radius isn't beyond them
pub record MayBeAsked (words : ℕ) (stored : List ℕ) (wanted : Wanted) (version : Contents)
    : Type 0 where
  pub code : StandsFor words version.layout.bits stored (opened_code version stored)
  pub near : wanted_radius wanted ≤ version.layout.bits

-- the first so many versions have a source each, a query for the code that words keep
pub record AreSourcesOn {S : Type 0} (asks : S → Asked) (stands : S → Standing)
    (versions : List Contents) (wanted : Wanted) (stored : List ℕ) (room : ℕ) (sources : List S)
    (number : ℕ) : Type 0 where
  pub number_is : length sources ≡ number
  pub each : (i : ℕ) (version : Contents) (source : S) → i < number
      → IsSourceOn wanted (slice_index_or versions i version)
      (opened_code (slice_index_or versions i version) stored) room
      (asks (slice_index_or sources i source)) (stands (slice_index_or sources i source))
