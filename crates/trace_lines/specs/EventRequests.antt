-- What an event that was read is: it keeps its code with zeros after the code's own bits.
use Rattle.std.specs.Prelude.{◌≡◌, ℕ, ◌≤◌, take, Option, Some, None, Result, Ok, Err, IfOk}
use Rattle.std.specs.Arc.{arc_value}
use Rattle.hamming_model.specs.Codes.{StandsFor}
use Rattle.hamming_model.specs.Recoded.{IsStoredOperation}
use Rattle.hamming_model.specs.Scan.{Range, Near}
use Rattle.entry_log.specs.Entries.{kept_operation, operation_of}
use Rattle.query_protocol.specs.declared.bad.Bad.{Bad}
use Rattle.query_protocol.specs.declared.bad.LineFault.{LineFault}
use Rattle.query_protocol.specs.declared.bad.LineFault.TheVariants as line
use Rattle.world_model.specs.Events.{Event, Commit, Open, Advance, Pin, Poll, Give, Cancel}
use Rattle.world_model.specs.Events.{BuildStart, BuildStep, Follow, Swap, IsLayoutFor}
use Rattle.trace_lines.specs.EventAsked.{EventAsked}
use Rattle.trace_lines.specs.EventLines.{EventReading}
use Rattle.trace_lines.specs.declared.event_request.EventRequest.{EventRequest}
use Rattle.trace_lines.specs.declared.event_request.EventRequest.TheVariants as kept

-- the event that is asked, its code cut to so many bits
abbrev pub event_of : {W : ℕ} → ℕ → EventRequest W → Event
event_of bits (kept.Commit who op) = Commit who (operation_of bits op)
event_of bits (kept.OpenRange who tau stored) = Open who (Range tau (take bits stored))
event_of bits (kept.OpenNear who k stored) = Open who (Near k (take bits stored))
event_of bits (kept.Advance query shard) = Advance query shard
event_of bits (kept.Pin query shard) = Pin query shard
event_of bits (kept.Poll query shard budget) = Poll query shard budget
event_of bits (kept.Give query) = Give query
event_of bits (kept.Cancel query) = Cancel query
event_of bits (kept.BuildStart shard layout) = BuildStart shard (arc_value layout)
event_of bits (kept.BuildStep shard rows) = BuildStep shard rows
event_of bits (kept.Follow shard) = Follow shard
event_of bits (kept.Swap shard) = Swap shard

-- its code stands for one of so many bits, its radius is at most that, its layout is one of so many
-- bits, and it asks for a hit, or for a step, at least
abbrev pub IsFitEvent : (W bits : ℕ) → EventRequest W → Type 0
IsFitEvent W bits (kept.Commit who op) = IsStoredOperation W bits (kept_operation op)
IsFitEvent W bits (kept.OpenRange who tau stored) =
    StandsFor W bits stored (take bits stored) × (tau ≤ bits)
IsFitEvent W bits (kept.OpenNear who k stored) =
    StandsFor W bits stored (take bits stored) × (1 ≤ k)
IsFitEvent W bits (kept.Poll query shard budget) = 1 ≤ budget
IsFitEvent W bits (kept.BuildStart shard layout) = IsLayoutFor bits (arc_value layout)
IsFitEvent W bits other = Unit {0}

-- what was asked, its code cut so
abbrev pub event_asked_of : {W : ℕ} → ℕ → Result (EventRequest W) Bad → EventAsked
event_asked_of bits (Ok request) = Ok (event_of bits request)
event_asked_of bits (Err fault) = Err fault

-- what is given is what the words ask, and fit
pub record AsksAs (W bits : ℕ) (given : Result (EventRequest W) Bad) (asked : EventAsked)
    : Type 0 where
  pub event : event_asked_of bits given ≡ asked
  pub fit : IfOk given (IsFitEvent W bits)

-- words ask for a build
abbrev pub AsksLayout : EventAsked → Type 0
AsksLayout (Ok (BuildStart shard layout)) = Unit {0}
AsksLayout other = ⊥

-- what is given is what the words ask, but where there was no memory for the layout of a build
abbrev pub AsksWithMemory
    : (W bits : ℕ) → Result (EventRequest W) LineFault → EventAsked → Type 0
AsksWithMemory W bits (Ok request) asked = AsksAs W bits (Ok request) asked
AsksWithMemory W bits (Err (line.Bad fault)) asked = AsksAs W bits (Err fault) asked
AsksWithMemory W bits (Err line.NoMemory) asked = AsksLayout asked

-- what was read is what a line asks, and fit; or there was no memory for the layout of a build that
-- it asks for
abbrev pub ReadsEvent
    : (W bits : ℕ) → Result (Option (EventRequest W)) LineFault → EventReading → Type 0
ReadsEvent W bits (Ok None) reading = reading ≡ Ok None
ReadsEvent W bits (Ok (Some request)) reading =
    (reading ≡ Ok (Some (event_of bits request))) × IsFitEvent W bits request
ReadsEvent W bits (Err (line.Bad fault)) reading = reading ≡ Err fault
ReadsEvent W bits (Err line.NoMemory) (Ok (Some event)) = AsksLayout (Ok event)
ReadsEvent W bits (Err line.NoMemory) reading = ⊥
