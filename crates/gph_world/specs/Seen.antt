-- What a world is seen as, by its fields. No public clause cites this module.
use Rattle.std.specs.Prelude.{ℕ, List, length, map}
use Rattle.hamming_model.specs.Recoded.{cut_history}
use Rattle.commit_journal.specs.Journals.{JournalState}
use Rattle.world_model.specs.Events.{Setting}
use Rattle.world_model.specs.WorldState.{WorldState}
use Rattle.world_parts.specs.Seen.{place_seen, query_seen}
use Rattle.world_parts.specs.declared.held.Held.{Held}
use Rattle.world_parts.specs.declared.place.Place.{Place}
use Rattle.gph_world.specs.Worlds.{WorldView, setting_of}

-- the setting of a world
abbrev pub setting_seen : {W : ℕ} → ℕ → ℕ → JournalState → List (Place W) → Setting
setting_seen bits room journal places = setting_of bits (length places) room journal.limit

-- the state of a world
abbrev pub state_seen : {W : ℕ} → ℕ → JournalState → List (Place W) → List (Held W) → WorldState
state_seen bits journal places queries = record {
  history = cut_history bits journal.history;
  places = map place_seen places;
  queries = map (query_seen bits) queries;
}

-- a world as it is seen
abbrev pub world_seen : {W : ℕ} → ℕ → ℕ → JournalState → List (Place W) → List (Held W) → WorldView
world_seen bits room journal places queries = record {
  setting = setting_seen bits room journal places;
  state = state_seen bits journal places queries;
}
