-- The digits of a code's text are those that were read or written for it.
use Rattle.std.proofs.Common.{◌≡◌, ℕ, suc, ◌+◌, ◌*◌, ◌/◌, ◌%◌, ◌^◌, ◌<◌, All, List, [], ◌∷◌, refl, arith, inl, inr}
use Rattle.std.proofs.lemmas.Bool.Decides.{nat_tests}
use Rattle.std.specs.Char.{digit_value, digit_char}
use Rattle.gph_codes.specs.Digits.{IsLowerDigit}
use Rattle.hamming_model.specs.Codes.{bits_of, hex_code}
use Rattle.query_protocol.specs.Replies.{hex_text}

-- a lower-case digit is the digit of its value, which is below sixteen
value_of_lower : (byte : ℕ) → IsLowerDigit byte → (digit_value byte < 16) × (digit_char (digit_value byte) ≡ byte)
value_of_lower byte (inl range) = (grind (arith, nat_tests), grind (arith, nat_tests))
value_of_lower byte (inr range) = (grind (arith, nat_tests), grind (arith, nat_tests))

-- four binary digits
four_digits : (value : ℕ) → value < 16
    → 8 * (value / 2 ^ 3 % 2) + 4 * (value / 2 ^ 2 % 2) + 2 * (value / 2 ^ 1 % 2) + value / 2 ^ 0 % 2 ≡ value
four_digits value small = omega arith

-- lower-case digits are the text of the code that they spell
pub hex_again : (text : List ℕ) → All IsLowerDigit text → hex_text (hex_code text) ≡ text
unfolding hex_text bits_of
hex_again [] all = refl
hex_again (byte ∷ rest) all =
    let first = value_of_lower byte (all 0 0 (omega arith)) in
    let others = hex_again rest (λ at other inside. all (suc at) other (omega arith)) in
    rw (four_digits (digit_value byte) first.0, first.1, others) refl
