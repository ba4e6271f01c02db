-- One event, its answer, and the state that it leaves.
use Rattle.std.specs.Prelude.{◌≡◌, ℕ, ◌⊎◌, Bool, true, false, Some, None, Result, Ok, Err}
use Rattle.world_model.specs.declared.refused.Refused.{Refused}
use Rattle.world_model.specs.declared.refused.Refused.TheVariants.{NoMemory}
use Rattle.world_model.specs.declared.told.Told.{Told}
use Rattle.world_model.specs.Events.{Setting, Event, Commit, Open, Advance, Pin, Poll, Give, Cancel, BuildStart, BuildStep, Follow, Swap}
use Rattle.world_model.specs.WorldState.{WorldState, ShardWithBuild}
use Rattle.world_model.specs.Refusals.{refusal}
use Rattle.world_model.specs.ShardSteps.{CommitsEntry, Advances, AdvancesTo, StartsBuild, PlacesRows, FollowsHistory, SwapsLayout}
use Rattle.world_model.specs.QuerySteps.{OpensAtEnd, Pins, CancelsQuery}
use Rattle.world_model.specs.Answering.{PollsAt, GivesNext}

-- what an event does that isn't refused
abbrev pub Does : Setting → WorldState → Event → Told → WorldState → Type 0
Does z s (Commit who operation) said t = CommitsEntry z s who operation said t
Does z s (Open who ask) said t = OpensAtEnd z s ask said t
Does z s (Advance query shard) said t = AdvancesTo s query shard said t
Does z s (Pin query shard) said t = Pins z s query shard said t
Does z s (Poll query shard budget) said t = PollsAt z s query shard budget said t
Does z s (Give query) said t = GivesNext z s query said t
Does z s (Cancel query) said t = CancelsQuery s query said t
Does z s (BuildStart shard layout) said t = StartsBuild s shard layout said t
Does z s (BuildStep shard rows) said t = PlacesRows s shard rows said t
Does z s (Follow shard) said t = FollowsHistory s shard said t
Does z s (Swap shard) said t = SwapsLayout s shard said t

-- the shard of a pin was brought to the query's front, and nothing more
pub record OnlyAdvances (s : WorldState) (event : Event) (t : WorldState) : Type 0 where
  pub query : ℕ
  pub shard : ℕ
  pub is_pin : event ≡ Pin query shard
  pub after : ShardWithBuild
  pub advances : Advances s query shard after t

-- the events that take memory
abbrev pub takes_memory : Event → Bool
takes_memory (Poll query shard budget) = false
takes_memory (Give query) = false
takes_memory (Cancel query) = false
takes_memory (BuildStep shard rows) = false
takes_memory event = true

-- an event that takes memory found none, where no cause refuses it: nothing changed, but that the
-- shard of a pin may have advanced
pub record FindsNoMemory (z : Setting) (s : WorldState) (event : Event) (why : Refused)
    (t : WorldState) : Type 0 where
  pub why_is : why ≡ NoMemory
  pub takes : takes_memory event ≡ true
  pub not_refused : refusal z s event ≡ None
  pub leaves : (t ≡ s) ⊎ OnlyAdvances s event t

-- one atomic step: a refusal for its cause, which changes nothing, or what the event does where no
-- cause refuses it
abbrev pub WorldStep : Setting → WorldState → Event → Result Told Refused → WorldState → Type 0
WorldStep z s event (Ok said) t = (refusal z s event ≡ None) × Does z s event said t
WorldStep z s event (Err why) t =
    ((refusal z s event ≡ Some why) × (t ≡ s)) ⊎ FindsNoMemory z s event why t
