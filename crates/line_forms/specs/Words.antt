-- The words of a line.
use Rattle.std.specs.Prelude.{ℕ, ◌==◌, ◌≢◌, ◌&&◌, nat_le, if◌then◌else◌, List, [], ◌∷◌, ◌++◌, Bool, not}
use Rattle.std.specs.List.{list_all}

-- a begun word, if it has a byte
abbrev pub begun_word : List ℕ → List (List ℕ)
begun_word [] = []
begun_word (byte ∷ bytes) = (byte ∷ bytes) ∷ []

-- the words of a begun word and the bytes after it: one or more spaces part them
abbrev pub words_after : List ℕ → List ℕ → List (List ℕ)
words_after begun [] = begun_word begun
words_after begun (byte ∷ bytes) =
    if byte == 32 then begun_word begun ++ words_after [] bytes
    else words_after (begun ++ byte ∷ []) bytes

-- the words of a line
abbrev pub words : List ℕ → List (List ℕ)
words line = words_after [] line

-- every byte is printable ASCII
abbrev pub is_printable : List ℕ → Bool
is_printable line = list_all (λ byte. nat_le 32 byte && nat_le byte 126) line

-- no byte is a space
abbrev pub has_no_space : List ℕ → Bool
has_no_space bytes = list_all (λ byte. not (byte == 32)) bytes

-- the bytes begin with a word, or there are none
abbrev pub IsBegun : List ℕ → Type 0
IsBegun [] = Unit {0}
IsBegun (byte ∷ bytes) = byte ≢ 32

-- words joined by single spaces
abbrev pub joined : List (List ℕ) → List ℕ
joined [] = []
joined (word ∷ []) = word
joined (word ∷ next ∷ words) = word ++ 32 ∷ joined (next ∷ words)
