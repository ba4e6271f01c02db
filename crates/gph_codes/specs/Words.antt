-- The bits that words and bytes keep, and the words of bits.
use Rattle.std.specs.Prelude.{◌≡◌, ℕ, zero, suc, ◌^◌, ◌<◌, List, [], ◌∷◌, length, take, drop}
use Rattle.std.specs.List.{flat_map, AllByRecursion}
use Rattle.std.specs.Int.Digits.{number_from_digits}
use Rattle.hamming_model.specs.Codes.{bits_of}

-- the bits of words, the top bit of the first word first
abbrev pub word_bits : List ℕ → List ℕ
word_bits words = flat_map (bits_of 64) words

-- the bits of bytes, the top bit of the first byte first
abbrev pub byte_bits : List ℕ → List ℕ
byte_bits bytes = flat_map (bits_of 8) bytes

-- so many words that have these bits
unfoldable pub words_of : ℕ → List ℕ → List ℕ
words_of zero bits = []
words_of (suc n) bits = number_from_digits 2 (take 64 bits) ∷ words_of n (drop 64 bits)

-- so many words of 64 bits
pub record IsWords (number : ℕ) (words : List ℕ) : Type 0 where
  pub size : length words ≡ number
  pub fit : AllByRecursion (λ word. word < 2 ^ 64) words
