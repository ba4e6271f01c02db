-- What a sink took of a piece, and why a call failed.
use Rattle.std.specs.Prelude.{◌≡◌, ℕ, ◌<◌, ◌≤◌, List, length, take, Option, Result, Ok, Err}
use Rattle.std.specs.Io.KnownBytes.{Appends}
use Rattle.line_io.specs.Faults.{Rose}
use Rattle.line_io.specs.declared.source.Failed.{Failed}

-- the sink took the whole piece, or it failed and took less than that
abbrev pub Writes
    : {A : Type 0} → Option (List ℕ) → Option (List ℕ) → Result A Failed → List ℕ → Type 0
Writes before after (Ok value) piece = Appends before after piece
Writes before after (Err failed) piece =
    (taken : ℕ) × (taken < length piece) × Appends before after (take taken piece)

-- a call counts no fault where it succeeds, and fails only where the count rose
abbrev pub IsCaused : {A : Type 0} → ℕ → ℕ → Result A Failed → Type 0
IsCaused before after (Ok value) = after ≡ before
IsCaused before after (Err failed) = (before ≤ after) × Rose before after
