-- How a world is kept. No public clause cites this module.
use Rattle.std.specs.Prelude.{◌≡◌, ℕ, ◌*◌, ◌≤◌, List, length, false, Option, Some, None, slice_get}
use Rattle.std.specs.declared.alloc.Global.{Global}
use Rattle.std.specs.declared.sync.Arc.{Arc}
use Rattle.hamming_model.specs.History.{JournalEntry}
use Rattle.hamming_model.specs.Recoded.{AreStoredEntries, cut_history}
use Rattle.hamming_model.specs.declared.limits.TheConstants.{ROOM_MOST, SHARDS_MOST, WORDS_MOST}
use Rattle.shard_version.specs.Tables.{Tabled}
use Rattle.commit_journal.specs.Fronts.{FrontState, position_of}
use Rattle.commit_journal.specs.Journals.{JournalState}
use Rattle.versioned_shard.specs.Shards.{contents_at}
use Rattle.scatter_gather.specs.Gathering.{Gathered}
use Rattle.scatter_gather.specs.Kept.{IsGathering}
use Rattle.world_model.specs.Asking.{IsGatheringOf}
use Rattle.world_model.specs.Events.{Setting}
use Rattle.world_model.specs.Sound.{IsSound}
use Rattle.world_model.specs.WorldState.{pinned_version}
use Rattle.world_bridge.specs.Held.{HoldsLive}
use Rattle.world_parts.specs.Asks.{IsStoredAsk}
use Rattle.world_parts.specs.Seen.{query_seen}
use Rattle.gph_world.specs.Seen.{setting_seen, state_seen}
use Rattle.world_parts.specs.Sources.{QuerySource, gathering_seen}
use Rattle.world_parts.specs.Whole.{IsWhole}
use Rattle.world_parts.specs.declared.held.Held.{Held}
use Rattle.world_parts.specs.declared.place.Place.{Place}

-- the front of the query of a number, while it is open
abbrev pub front_at : {W : ℕ} → List (Held W) → ℕ → Option FrontState
front_at queries number =
    elim (slice_get queries number) [ None ↦ None | Some held ↦ held.front ]

-- a gathering of a query's sources is sound, and gives as many hits as the query may
pub record IsGatheringHeld {W : ℕ} (z : Setting) (history : List JournalEntry) (held : Held W)
    (g : Gathered (QuerySource W)) : Type 0 where
  pub gathers : IsGatheringOf z history (query_seen z.bits held) (gathering_seen g)
  pub holds : IsGathering (gathering_seen g)
  pub limit : held.limit ≡ g.limit

-- a query stands on words of codes, its front stands at its position, each version that it pinned
-- is the shard's there, and it has its versions and sources unless it was cancelled
pub record IsQueryHeld {W : ℕ} (z : Setting) (history : List JournalEntry) (held : Held W)
    : Type 0 where
  pub stored : IsStoredAsk z.bits held.ask
  pub front : (front : FrontState) → held.front ≡ Some front → position_of front ≡ held.position
  pub pins : (shard : ℕ) (version : Arc Tabled Global)
      → slice_get held.pinned.value.items shard ≡ Some (Some version)
      → contents_at version ≡ pinned_version z history (query_seen z.bits held) shard
      (contents_at version).layout
  pub gathered : (g : Gathered (QuerySource W)) → held.gathered.value ≡ Some g
      → IsGatheringHeld z history held g
  pub whole : held.cancelled ≡ false → IsWhole held

-- what is true of every world: its codes fit the words, its state is sound, the fronts of its
-- queries are exactly the live ones of its journal, and each query is kept well
pub record KeepsWorld {W : ℕ} (bits room : ℕ) (journal : JournalState) (places : List (Place W))
    (queries : List (Held W)) : Type 0 where
  pub few_words : W ≤ WORDS_MOST
  pub words : bits ≤ 64 * W
  pub some_shards : 1 ≤ length places
  pub few_shards : length places ≤ SHARDS_MOST
  pub some_room : 1 ≤ room
  pub small_room : room ≤ ROOM_MOST
  pub stored : AreStoredEntries W bits journal.history
  pub sound : IsSound (setting_seen bits room journal places)
      (state_seen bits journal places queries)
  pub live : HoldsLive journal (front_at queries)
  pub held : (number : ℕ) (held : Held W) → slice_get queries number ≡ Some held
      → IsQueryHeld (setting_seen bits room journal places) (cut_history bits journal.history) held
