-- The program's events in the definitions' words.
use Rattle.std.specs.Prelude.{ℕ, List, map}
use Rattle.std.specs.Arc.{arc_value}
use Rattle.entry_log.specs.Entries.{kept_operation, operation_of}
use Rattle.hamming_model.specs.Recoded.{IsStoredOperation}
use Rattle.world_model.specs.Events as world
use Rattle.world_model.specs.Events.{IsFormed, Setting}
use Rattle.world_parts.specs.Asks.{IsStoredAsk, ask_seen}
use Rattle.gph_world.specs.declared.event.Event.{Event}
use Rattle.gph_world.specs.declared.event.Event.TheVariants as event

-- an event with codes of so many bits
abbrev pub event_seen : {W : ℕ} → ℕ → Event W → world.Event
event_seen bits (event.Commit who op) = world.Commit who (operation_of bits op)
event_seen bits (event.Open who ask) = world.Open who (ask_seen bits ask)
event_seen bits (event.Advance query shard) = world.Advance query shard
event_seen bits (event.Pin query shard) = world.Pin query shard
event_seen bits (event.Poll query shard budget) = world.Poll query shard budget
event_seen bits (event.Give query) = world.Give query
event_seen bits (event.Cancel query) = world.Cancel query
event_seen bits (event.BuildStart shard layout) = world.BuildStart shard (arc_value layout)
event_seen bits (event.BuildStep shard rows) = world.BuildStep shard rows
event_seen bits (event.Follow shard) = world.Follow shard
event_seen bits (event.Swap shard) = world.Swap shard

-- events with codes of so many bits
abbrev pub events_seen : {W : ℕ} → ℕ → List (Event W) → List world.Event
events_seen bits events = map (event_seen bits) events

-- the words of an event's code stand for a code of so many bits
abbrev pub IsStoredEvent : {W : ℕ} → ℕ → Event W → Type 0
IsStoredEvent {W} bits (event.Commit who op) = IsStoredOperation W bits (kept_operation op)
IsStoredEvent bits (event.Open who ask) = IsStoredAsk bits ask
IsStoredEvent bits event = Unit {0}

-- an event has codes, layouts and numbers of a world's setting
pub record IsEventFor {W : ℕ} (z : Setting) (event : Event W) : Type 0 where
  pub formed : IsFormed z (event_seen z.bits event)
  pub stored : IsStoredEvent z.bits event
