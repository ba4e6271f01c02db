-- The refusals to finish a build.
use Rattle.std.specs.Prelude.{◌≡◌, ℕ, Result, Ok, Err}
use Rattle.version_draft.specs.Unfinished.{Unfinished}
use Rattle.repartitioner.specs.declared.unready.Unready.{Unready}
use Rattle.repartitioner.specs.declared.unready.Unready.TheVariants.{Left, NoMemory}

-- the build that a refusal hands back
abbrev pub handed_back : {W : ℕ} → Unready W → Unfinished
handed_back (Left left build) = build
handed_back (NoMemory build) = build

-- a refusal tells that so many rows are left, where it tells how many
abbrev pub TellsLeft : {W : ℕ} → Unready W → ℕ → Type 0
TellsLeft (Left told build) left = told ≡ left
TellsLeft (NoMemory build) left = Unit {0}

-- an answer is that rows are left
abbrev pub IsLeft : {W : ℕ} {X : Type 0} → Result X (Unready W) → Type 0
IsLeft (Err (Left left build)) = Unit {0}
IsLeft (Err (NoMemory build)) = ⊥
IsLeft (Ok done) = ⊥
