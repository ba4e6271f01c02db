-- A layout by its bits and its parts.
use Rattle.std.proofs.Common.{◌≡◌, ℕ, ap}
use Rattle.part_layout.specs.Laid.{Laid}

-- a layout of so many bits is that of its parts
pub laid_again : (bits : ℕ) (layout : Laid) → layout.bits ≡ bits → layout ≡ record { bits = bits; parts = layout.parts }
laid_again bits layout same =
    let With : ℕ → Laid = λ (n : ℕ). record { bits = n; parts = layout.parts } in ap With same
