-- What a call has of the outside, before it and after it.
use Rattle.std.specs.Prelude.{◌≡◌, ℕ, ◌≤◌, List, length, Option}
use Rattle.std.specs.Io.KnownBytes.{Appends, Consumes}
use Rattle.session_model.specs.Ledger.{Ledgers, ledgers}

-- a source or a sink at a moment: the bytes that it tells, and its count of faults
pub record Ends : Type 0 where
  pub bytes : Option (List ℕ)
  pub faults : ℕ

-- what a call has of the outside: its source, its sink and its ledgers
pub record Outside : Type 0 where
  pub source : Ends
  pub sink : Ends
  pub ledgers : Ledgers

-- the outside before a call and after it
pub record Call : Type 0 where
  pub before : Outside
  pub after : Outside

-- the bytes that a source or a sink tells, and its count of faults
abbrev pub ends : Option (List ℕ) → ℕ → Ends
ends bytes faults = record { bytes = bytes; faults = faults }

-- the outside of a source and of a sink of which these tell the bytes and the faults
abbrev pub outside : {S K : Type 0} → (S → Option (List ℕ)) → (S → ℕ) → (K → Option (List ℕ))
    → (K → ℕ) → S → K → List ℕ → ℕ → Outside
outside left read_faults held write_faults source sink reads upkeep = record {
  source = ends (left source) (read_faults source);
  sink = ends (held sink) (write_faults sink);
  ledgers = ledgers reads upkeep;
}

-- a call over such a source and such a sink, each and the ledgers before it and after it
abbrev pub call : {S K : Type 0} → (S → Option (List ℕ)) → (S → ℕ) → (K → Option (List ℕ))
    → (K → ℕ) → S → S → K → K → List ℕ → List ℕ → ℕ → ℕ → Call
call left read_faults held write_faults source source' sink sink' reads reads' upkeep upkeep' =
    record {
      before = outside left read_faults held write_faults source sink reads upkeep;
      after = outside left read_faults held write_faults source' sink' reads' upkeep';
    }

-- nothing was read or written, and no ledger rose
abbrev pub Untouched : Call → Type 0
Untouched it = it.after ≡ it.before

-- bytes were read, so many at most, and bytes were written
pub record Transfers (limit : ℕ) (it : Call) (bytes output : List ℕ) : Type 0 where
  pub read : Consumes it.before.source.bytes it.after.source.bytes bytes
  pub few : length bytes ≤ limit
  pub wrote : Appends it.before.sink.bytes it.after.sink.bytes output

-- no read failed
abbrev pub NoReadFailed : Call → Type 0
NoReadFailed it = it.after.source.faults ≡ it.before.source.faults

-- no write failed
abbrev pub NoWriteFailed : Call → Type 0
NoWriteFailed it = it.after.sink.faults ≡ it.before.sink.faults
