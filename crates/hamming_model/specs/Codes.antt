-- Binary codes as lists of bits, position 0 first, and the Hamming distance between two of them.
use Rattle.std.specs.Prelude.{◌≡◌, ℕ, zero, suc, ◌+◌, ◌-◌, ◌*◌, ◌/◌, ◌%◌, ◌^◌, ◌<◌, ◌==◌, if◌then◌else◌, List, [], ◌∷◌, ◌++◌, length, replicate}
use Rattle.std.specs.List.{flat_map, AllByRecursion}
use Rattle.std.specs.Char.{digit_value}

-- the low n binary digits of a number, the top one first
unfoldable pub bits_of : ℕ → ℕ → List ℕ
bits_of zero number = []
bits_of (suc n) number = number / 2 ^ n % 2 ∷ bits_of n number

-- the code that hexadecimal digits of either case spell, four bits a digit
abbrev pub hex_code : List ℕ → List ℕ
hex_code text = flat_map (λ digit. bits_of 4 (digit_value digit)) text

-- a code of so many bits
pub record IsCode (bits : ℕ) (code : List ℕ) : Type 0 where
  pub size : length code ≡ bits
  pub binary : AllByRecursion (λ bit. bit < 2) code

-- 1 where two bits differ, 0 where they agree
abbrev pub difference : ℕ → ℕ → ℕ
difference a b = if a == b then 0 else 1

-- the Hamming distance: at how many positions two codes of one length differ
abbrev pub distance : List ℕ → List ℕ → ℕ
distance [] code = 0
distance (a ∷ rest) [] = 0
distance (a ∷ rest) (b ∷ others) = difference a b + distance rest others

-- a code with zeros after it, so many positions in all: how words of 64 bits keep it
abbrev pub padded : ℕ → List ℕ → List ℕ
padded positions code = code ++ replicate (positions - length code) 0

-- what so many words of 64 bits keep stands for this code of so many bits
pub record StandsFor (words bits : ℕ) (stored code : List ℕ) : Type 0 where
  pub is_code : IsCode bits code
  pub is_padded : stored ≡ padded (64 * words) code
