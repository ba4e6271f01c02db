-- How gathered bytes go out to a writer. No public clause cites this module.
use Rattle.std.specs.Prelude.{ℕ, Bool, true, false, ◌⊎◌, List}

-- the bytes were written whole and then flushed, or one of the two failed; whether both succeeded
abbrev pub GoesOut : {T : Type 0} → (T → T → List ℕ → Bool → Type 0) → (T → T → Bool → Type 0)
    → T → T → List ℕ → Bool → Type 0
GoesOut {T} writes flushes before after bytes true =
    (between : T) × writes before between bytes true × flushes between after true
GoesOut {T} writes flushes before after bytes false =
    writes before after bytes false
    ⊎ ((between : T) × writes before between bytes true × flushes between after false)
