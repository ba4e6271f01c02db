-- What an opening leaves of a desk, and the sources that it gives.
-- No public clause cites this module.
use Rattle.std.specs.Prelude.{◌≡◌, ℕ, ◌+◌, ◌*◌, ◌<◌, ◌≤◌, true}
use Rattle.std.specs.Prelude.{List, length, replicate, slice_index_or, take, Some, None}
use Rattle.std.specs.List.{AllByRecursion}
use Rattle.hamming_model.specs.History.{rows_of}
use Rattle.hamming_model.specs.Scan.{Ask}
use Rattle.hit_source.specs.Sources.{Asked, Standing}
use Rattle.part_layout.specs.Text.{layout_text}
use Rattle.shard_version.specs.Contents.{Contents}
use Rattle.query_opening.specs.Opening.{IsSourceOn}
use Rattle.session_desk.specs.Calls.{Learns}
use Rattle.session_desk.specs.Desks.{DeskState, IsVersionOf, seen_history}
use Rattle.session_model.specs.Ledger.{layout_at}
use Rattle.session_model.specs.Step.{AreLayouts}
use Rattle.session_model.specs.Told.{ShardLayouts}
use Rattle.session_model.specs.Upkeep.{entries_beyond}
use Rattle.scatter_gather.specs.Gathering.{Gathered}
use Rattle.open_queries.specs.Kept.{IsUntouched}
use Rattle.open_session.specs.Questions.{asked_code, limit_in, wanted_in}
use Rattle.open_session.specs.Cursors.{ShardSource, asks, stands}
use Rattle.open_session.specs.KeptDesk.{KeepsDesk, layouts_of, pins_of}
use Rattle.open_session.specs.Pinned.{PinnedSoFar, PinsMore}

-- a source stands on a shard's version at a position, in this layout, which is the desk's last pin
pub record OpensShard (desk : DeskState) (position shard : ℕ) (layout : List (List ℕ)) (asked : Ask)
    (room : ℕ) (a : Asked) (s : Standing) : Type 0 where
  pub version : Contents
  pub version_is : IsVersionOf desk shard position version
  pub layout_is : version.layout.parts ≡ layout
  pub source_is : IsSourceOn (wanted_in asked) version (asked_code asked) room a s
  pub pin : slice_index_or desk.pins shard None ≡ Some (position, layout_text layout)

-- a source for each shard at one position, between what was seen before and what is seen after, and
-- the number of all rows there; the layouts are those that were pinned, of a desk that is alone
-- those in which its shards stand
pub record OpensAll {S : Type 0} (asks : S → Asked) (stands : S → Standing) (old new : DeskState)
    (sources : List S) (layouts : ShardLayouts) (position rows : ℕ) (asked : Ask)
    (room from to : ℕ) : Type 0 where
  pub after : length old.seen ≤ position
  pub within : position ≤ length new.seen
  pub rows_are : rows ≡ length (rows_of (take position (seen_history new)))
  pub learns : Learns old new.seen
  pub keeps : KeepsDesk old new
  pub pins : pins_of new ≡ replicate old.config.shards position
  pub steps : to ≤ from + entries_beyond (pins_of old) position
  pub pins_number : length (pins_of old) ≡ old.config.shards
  pub behind : AllByRecursion (λ pin. pin ≤ position) (pins_of old)
  pub are_layouts : AreLayouts new.config layouts
  pub alone : old.alone ≡ true → layouts ≡ layouts_of old
  pub number : length sources ≡ old.config.shards
  pub each : (shard : ℕ) (d : S) → shard < old.config.shards
      → OpensShard new position shard (layout_at layouts shard) asked room
      (asks (slice_index_or sources shard d)) (stands (slice_index_or sources shard d))

-- there was no memory
pub record OpensNone (old new : DeskState) (from to : ℕ) : Type 0 where
  pub learns : Learns old new.seen
  pub keeps : KeepsDesk old new
  pub pins : (most : ℕ) → entries_beyond (pins_of new) most ≤ entries_beyond (pins_of old) most
  pub steps : to ≤ from + old.config.shards * length new.seen

-- a gathering that has given nothing, and gives what is asked of so many rows
pub record IsGathered {W : ℕ} (asked : Ask) (rows : ℕ) (gather : Gathered (ShardSource W))
    : Type 0 where
  pub limit : gather.limit ≡ limit_in asked rows
  pub given : gather.given ≡ 0
  pub untouched : IsUntouched (asks {W = W}) (stands {W = W}) gather

-- a gathering of a source for each shard
pub record OpensGathered {W : ℕ} (old new : DeskState) (gather : Gathered (ShardSource W))
    (layouts : ShardLayouts) (position : ℕ) (asked : Ask) (room from to : ℕ) : Type 0 where
  pub rows : ℕ
  pub gathers : IsGathered asked rows gather
  pub opens : OpensAll (asks {W = W}) (stands {W = W}) old new gather.sources layouts position rows
      asked room from to

-- the same, where the layouts are taken down
pub record OpensPinned {W : ℕ} (old new : DeskState) (before after : PinnedSoFar)
    (gather : Gathered (ShardSource W)) (position : ℕ) (asked : Ask) (room from to : ℕ)
    : Type 0 where
  pub layouts : ShardLayouts
  pub gathered : OpensGathered old new gather layouts position asked room from to
  pub pinned : PinsMore before after layouts
