-- What the sources and sinks of this crate are.
use Rattle.std.specs.Prelude.{ℕ, Bool, List, Option}
use Rattle.std.specs.Io.KnownBytes.{append_known}

-- a source in memory: bytes left, faults and calls so far, the most that a read gives, and the
-- calls that fail
pub record MemoryInput : Type 0 where
  pub left : List ℕ
  pub faults : ℕ
  pub calls : ℕ
  pub piece : ℕ
  pub failing : List ℕ

-- a sink in memory: bytes held, faults and calls so far, the calls that fail
pub record MemoryOutput : Type 0 where
  pub held : List ℕ
  pub faults : ℕ
  pub calls : ℕ
  pub failing : List ℕ

-- a source in memory that never fails: the bytes left, and the most that a read gives
pub record SteadyInput : Type 0 where
  pub left : List ℕ
  pub piece : ℕ

-- what bytes are read from or written to, with the faults that it has met
pub record Counted (T : Type 0) : Type 0 where
  pub end : T
  pub faults : ℕ

-- a sink into a shared buffer: the faults that it has met, and how many bytes it has added there
pub record Adding : Type 0 where
  pub faults : ℕ
  pub added : ℕ

-- a writer, the bytes on their way to it, and whether giving bytes out has failed
pub record Outgoing (T : Type 0) : Type 0 where
  pub writer : T
  pub pending : List ℕ
  pub failed : Bool

-- the bytes that the writer holds, where they are told, and then those on their way to it
abbrev pub told_and_pending : {T : Type 0} → (T → Option (List ℕ)) → Outgoing T → Option (List ℕ)
told_and_pending contents state = append_known (contents state.writer) state.pending
