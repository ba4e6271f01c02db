-- When a source or a sink may answer that it failed.
use Rattle.std.specs.Prelude.{◌≡◌, ℕ, ◌+◌, ◌-◌, ◌^◌, ◌<◌, ◌≤◌, ◌⊎◌, min, List, length}
use Rattle.std.specs.Prelude.{Result, Ok, Err, IfOk, OnErr, Option, None, Some, ⊤}

-- a count of faults rose, or stands at the greatest number that it can hold
abbrev pub Rose : ℕ → ℕ → Type 0
Rose before after = (before < after) ⊎ (after ≡ 2 ^ 64 - 1)

-- so many more, up to the greatest u64
abbrev pub raised : ℕ → ℕ → ℕ
raised count more = min (count + more) (2 ^ 64 - 1)

-- one more, up to the greatest u64
abbrev pub counted : ℕ → ℕ
counted count = min (count + 1) (2 ^ 64 - 1)

-- the count of faults never falls, and an answer that the call failed comes only where it rose
pub record HasCause {E : Type 0} (before after : ℕ) (result : Result ℕ E) : Type 0 where
  pub never_falls : before ≤ after
  pub failed : OnErr result (Rose before after)

-- an answer that the call succeeded comes only where the count of faults is as before
abbrev pub IsSteady : {E : Type 0} → ℕ → ℕ → Result ℕ E → Type 0
IsSteady before after result = IfOk result (λ _. after ≡ before)

-- a piece that isn't empty is taken by one byte or more
abbrev pub TakesSome : {E : Type 0} → Result ℕ E → List ℕ → Type 0
TakesSome result piece = IfOk result (λ taken. 0 < length piece → 0 < taken)

-- one write had this answer; that it took nothing of a piece that isn't empty is told as a failure
abbrev pub TellsWrite : {E : Type 0} → (List ℕ → Result ℕ E → Type 0) → List ℕ → Result ℕ E → Type 0
TellsWrite one piece (Ok taken) = one piece (Ok taken)
TellsWrite one piece (Err failed) = one piece (Err failed) ⊎ (one piece (Ok 0) × (0 < length piece))

-- bytes that were told are still told
abbrev pub StaysTold : Option (List ℕ) → Option (List ℕ) → Type 0
StaysTold None after = ⊤
StaysTold (Some before) None = ⊥
StaysTold (Some before) (Some after) = ⊤
