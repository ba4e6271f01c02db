-- What a contract sees of a layout.
use Rattle.std.specs.Prelude.{◌≡◌, ℕ, ◌%◌, ◌≤◌, List, [], slice_index_or, refl}
use Rattle.std.specs.Coded.{Coded, code_by, coded×, coded_list, coded_ℕ}
use Rattle.hamming_model.specs.Layouts.{IsLayout, part_value}
use Rattle.hamming_model.specs.Codes.{StandsFor}
use Rattle.hamming_model.specs.declared.limits.TheConstants.{BITS_MOST}

-- the number of bits of a code, and the positions of each part
pub record Laid : Type 0 where
  pub bits : ℕ
  pub parts : List (List ℕ)

-- a layout as a number and a list
abbrev pub laid_code : Coded Laid
laid_code =
    code_by (ℕ × List (List ℕ)) (coded× coded_ℕ (coded_list (coded_list coded_ℕ)))
    (λ laid. (laid.bits, laid.parts)) (λ both. record { bits = both.0; parts = both.1 }) (λ _. refl)

-- a number of bits that a code may have: whole bytes, 8 to 256
pub record IsCodeSize (bits : ℕ) : Type 0 where
  pub whole : bits % 8 ≡ 0
  pub some : 8 ≤ bits
  pub few : bits ≤ BITS_MOST

-- a layout of an allowed number of bits
pub record IsLaid (laid : Laid) : Type 0 where
  pub allowed : IsCodeSize laid.bits
  pub layout : IsLayout laid.bits laid.parts

-- the positions of a part, counted from 0
abbrev pub part_at : Laid → ℕ → List ℕ
part_at laid part = slice_index_or laid.parts part []

-- the value at a part of the code that so many words of bits stand for
abbrev pub IsValue : ℕ → Laid → List ℕ → ℕ → ℕ → Type 0
IsValue words laid stored part value =
    (code : List ℕ) → StandsFor words laid.bits stored code
    → value ≡ part_value code (part_at laid part)
