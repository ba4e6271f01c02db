-- What calls do with the versions that a query pinned.
use Rattle.std.specs.Prelude.{◌≡◌, ◌⊎◌, ℕ, ◌<◌, ◌≤◌, List, length, filter, sum_by}
use Rattle.std.specs.Prelude.{Option, Some, None, is_none, slice_get, slice_set}
use Rattle.std.specs.declared.alloc.Global.{Global}
use Rattle.std.specs.declared.sync.Arc.{Arc}
use Rattle.threshold_model.specs.Bounds.{IsUnitsOf}
use Rattle.shard_version.specs.Contents.{Contents}
use Rattle.shard_version.specs.Tables.{Tabled}
use Rattle.hit_source.specs.Sources.{IsFresh}
use Rattle.commit_journal.specs.Journals.{JournalState, KeepsFronts}
use Rattle.versioned_shard.specs.Shards.{contents_at}
use Rattle.scatter_gather.specs.Gathering.{Gathered, gathered}
use Rattle.scatter_gather.specs.Kept.{IsGathering}
use Rattle.world_model.specs.Asking.{AsksOf, most_given}
use Rattle.world_model.specs.Events.{IsQuestion}
use Rattle.world_parts.specs.Asks.{IsStoredAsk, ask_seen}
use Rattle.world_parts.specs.Gathers.{AreAllLawful, with_gather}
use Rattle.world_parts.specs.Cancels.{without_held}
use Rattle.world_parts.specs.Sources.{QuerySource, gathering_seen, question_asked, standing_told}
use Rattle.world_parts.specs.Whole.{IsWhole}
use Rattle.world_parts.specs.declared.ask.Ask.{Ask}
use Rattle.world_parts.specs.declared.held.Held.{Held}

-- the versions that are pinned, by the numbers of their shards
abbrev pub VersionPins : Type 0
VersionPins = List (Option (Arc Tabled Global))

-- how many shards aren't pinned
abbrev pub missing : VersionPins → ℕ
missing pins = length (filter is_none pins)

-- the pins with one more
abbrev pub pinned_with : VersionPins → ℕ → Arc Tabled Global → VersionPins
pinned_with pins shard version = slice_set pins shard (Some version)

-- the number of rows of a version, if one is pinned
abbrev pub rows_pinned : Option (Arc Tabled Global) → ℕ
rows_pinned None = 0
rows_pinned (Some version) = length (contents_at version).rows

-- a version of the contents that are pinned on a shard
pub record IsPinThere (pins : VersionPins) (shard : ℕ) (version : Arc Tabled Global) : Type 0 where
  pub pin : Arc Tabled Global
  pub is_there : slice_get pins shard ≡ Some (Some pin)
  pub same : contents_at version ≡ contents_at pin

-- ---- sources

-- a question may be asked of a version: its words stand for a code of the version's bits
pub record MayOpen {W : ℕ} (ask : Ask W) (version : Contents) : Type 0 where
  pub stored : IsStoredAsk version.layout.bits ask
  pub question : IsQuestion version.layout.bits (ask_seen version.layout.bits ask)

-- a source asks a question of a version, and nothing was read or given
pub record IsOpened {W : ℕ} (room : ℕ) (ask : Ask W) (version : Contents) (source : QuerySource W)
    : Type 0 where
  pub asks : AsksOf room version (ask_seen version.layout.bits ask) (question_asked source)
  pub fresh : IsFresh (standing_told source)
  pub most : ℕ
  pub units_of : IsUnitsOf version.layout.bits (ask_seen version.layout.bits ask) version.rows
      version.layout.parts most
  pub units : (standing_told source).units ≤ most

-- so many sources, each of which asks the question of the version that is pinned on its shard
pub record AreOpened {W : ℕ} (room : ℕ) (ask : Ask W) (pins : VersionPins)
    (sources : List (QuerySource W)) (number : ℕ) : Type 0 where
  pub number_is : length sources ≡ number
  pub each : (shard : ℕ) (source : QuerySource W) (version : Arc Tabled Global)
      → slice_get sources shard ≡ Some source → slice_get pins shard ≡ Some (Some version)
      → IsOpened room ask (contents_at version) source

-- each pinned version may be asked, and all are of codes of so many bits
pub record MayOpenEach {W : ℕ} (ask : Ask W) (pins : VersionPins) : Type 0 where
  pub bits : ℕ
  pub all : missing pins ≡ 0
  pub bits_are : (shard : ℕ) (version : Arc Tabled Global)
      → slice_get pins shard ≡ Some (Some version) → (contents_at version).layout.bits ≡ bits
  pub each : (shard : ℕ) (version : Arc Tabled Global)
      → slice_get pins shard ≡ Some (Some version) → MayOpen ask (contents_at version)

-- the gathering of sources of which nothing was given, and its limit
pub record BeginsGather {W : ℕ} (room : ℕ) (ask : Ask W) (pins : VersionPins) (rows : ℕ)
    (gather : Gathered (QuerySource W)) (limit : ℕ) : Type 0 where
  pub sources : List (QuerySource W)
  pub opened : AreOpened room ask pins sources (length pins)
  pub gather_is : gather ≡ gathered sources limit 0 None
  pub limit_is : (bits : ℕ) → limit ≡ most_given rows (ask_seen bits ask)
  pub holds : IsGathering (gathering_seen gather)
  pub lawful : AreAllLawful {S = QuerySource W} question_asked standing_told

-- ---- pins of a query

-- a version was pinned, and some shard isn't
pub record PinsOneMore {W : ℕ} (from to : JournalState) (old new : Held W) (shard : ℕ)
    (version : Arc Tabled Global) : Type 0 where
  pub some : 0 < missing new.pinned.value.items
  pub pins : new.pinned.value.items ≡ pinned_with old.pinned.value.items shard version
  pub rest : new ≡ record old { pins = new.pins; pinned = new.pinned }
  pub whole : IsWhole new
  pub journal : to ≡ from

-- the last version was pinned: the sources begin, and the front is closed
pub record PinsLast {W : ℕ} (room : ℕ) (from to : JournalState) (old new : Held W) (shard rows : ℕ)
    (version : Arc Tabled Global) : Type 0 where
  pub all : missing new.pinned.value.items ≡ 0
  pub pins : new.pinned.value.items ≡ pinned_with old.pinned.value.items shard version
  pub gather : Gathered (QuerySource W)
  pub begins : BeginsGather room old.ask (pinned_with old.pinned.value.items shard version) rows
      gather new.limit
  pub rest : new ≡ with_gather (record old {
    pins = new.pins;
    pinned = new.pinned;
    front = None;
    limit = new.limit;
  }) (Some gather)
  pub whole : IsWhole new
  pub journal : to ≡ without_held from old.front
  pub fronts : KeepsFronts from to

-- a version was pinned, and maybe it is the last
abbrev pub PinsHeld : {W : ℕ} → ℕ → JournalState → JournalState → Held W → Held W → ℕ
    → Arc Tabled Global → Type 0
PinsHeld room from to old new shard version = PinsOneMore from to old new shard version
    ⊎ PinsLast room from to old new shard
    (sum_by rows_pinned (pinned_with old.pinned.value.items shard version)) version
