-- Hexadecimal texts: which bytes are digits, and the first that is none.
use Rattle.std.specs.Prelude.{◌≡◌, ℕ, ◌/◌, ◌<◌, ◌≤◌, ◌⊎◌, List, All, length, slice_index}
use Rattle.std.specs.Char.{digit_value}

-- a hexadecimal digit of either case
abbrev pub IsHexDigit : ℕ → Type 0
IsHexDigit byte = digit_value byte < 16

-- 0 to 9, or a to f
abbrev pub IsLowerDigit : ℕ → Type 0
IsLowerDigit byte = (48 ≤ byte × byte ≤ 57) ⊎ (97 ≤ byte × byte ≤ 102)

-- the text spells a code of so many bits: a hexadecimal digit for each four of them
pub record IsSpelled (bits : ℕ) (text : List ℕ) : Type 0 where
  pub size : length text ≡ bits / 4
  pub digits : All IsHexDigit text

-- the text has the length for so many bits,
-- and the byte at this place is the first that is no digit
pub record IsFirstFault (bits : ℕ) (text : List ℕ) (at : ℕ) : Type 0 where
  pub size : length text ≡ bits / 4
  pub in_text : at < length text
  pub is_none : 16 ≤ digit_value (slice_index text at)
  pub before : (place : ℕ) → place < at → IsHexDigit (slice_index text place)
