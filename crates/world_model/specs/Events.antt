-- What happens to a world: its events, and what each of them has to be.
use Rattle.std.specs.Prelude.{◌≡◌, ℕ, ◌≤◌, Option, Some, None}
use Rattle.hamming_model.specs.Codes.{IsCode}
use Rattle.hamming_model.specs.History.{Operation}
use Rattle.hamming_model.specs.Scan.{Ask, Range, Near}
use Rattle.hamming_model.specs.Stored.{AddsCode}
use Rattle.part_layout.specs.Laid.{Laid, IsLaid}

-- what no event changes: the bits of a code, the number of shards, how many hits may wait at a
-- source, and how many entries may stand
pub record Setting : Type 0 where
  pub bits : ℕ
  pub shards : ℕ
  pub room : ℕ
  pub limit : ℕ

-- an event: a session commits an operation or opens a query; a query advances or pins a shard,
-- polls its source there, gives its next hit or is cancelled; a build of a shard is begun, places
-- rows, follows the history, or gives the shard its layout
pub data Event : Type 0 where
  Commit : ℕ → Operation → Event
  Open : ℕ → Ask → Event
  Advance : ℕ → ℕ → Event
  Pin : ℕ → ℕ → Event
  Poll : ℕ → ℕ → ℕ → Event
  Give : ℕ → Event
  Cancel : ℕ → Event
  BuildStart : ℕ → Laid → Event
  BuildStep : ℕ → ℕ → Event
  Follow : ℕ → Event
  Swap : ℕ → Event

-- the number of the query that an event names
abbrev pub query_named : Event → Option ℕ
query_named (Advance query shard) = Some query
query_named (Pin query shard) = Some query
query_named (Poll query shard budget) = Some query
query_named (Give query) = Some query
query_named (Cancel query) = Some query
query_named event = None

-- the shard that an event names
abbrev pub shard_named : Event → Option ℕ
shard_named (Advance query shard) = Some shard
shard_named (Pin query shard) = Some shard
shard_named (Poll query shard budget) = Some shard
shard_named (BuildStart shard layout) = Some shard
shard_named (BuildStep shard rows) = Some shard
shard_named (Follow shard) = Some shard
shard_named (Swap shard) = Some shard
shard_named event = None

-- a layout of codes of so many bits
pub record IsLayoutFor (bits : ℕ) (layout : Laid) : Type 0 where
  pub laid : IsLaid layout
  pub bits_are : layout.bits ≡ bits

-- a question on codes of so many bits
abbrev pub IsQuestion : ℕ → Ask → Type 0
IsQuestion bits (Range tau code) = IsCode bits code × (tau ≤ bits)
IsQuestion bits (Near number code) = IsCode bits code × (1 ≤ number)

-- what an event has to be: its codes, layouts and numbers are of the world's bits
abbrev pub IsFormed : Setting → Event → Type 0
IsFormed z (Commit who operation) = AddsCode z.bits operation
IsFormed z (Open who ask) = IsQuestion z.bits ask
IsFormed z (Poll query shard budget) = 1 ≤ budget
IsFormed z (BuildStart shard layout) = IsLayoutFor z.bits layout
IsFormed z event = Unit {0}
