-- The lines of a list of bytes.
use Rattle.std.specs.Prelude.{◌≡◌, ℕ, ◌==◌, ◌≢◌, Bool, true, false, if◌then◌else◌}
use Rattle.std.specs.Prelude.{List, [], ◌∷◌, ◌++◌, map, All}
use Rattle.std.specs.Io.BufRead.{strip_last}

-- the byte that ends a line, LF
abbrev pub line_feed : ℕ
line_feed = 10

-- what a line that ended keeps of the bytes before its LF: all but a CR at the end
abbrev pub without_return : List ℕ → List ℕ
without_return bytes = strip_last 13 bytes

-- what is left of a line that an LF ended, or the end of the input
abbrev pub ended_by : Bool → List ℕ → List ℕ
ended_by true bytes = without_return bytes
ended_by false bytes = bytes

-- the lines that end in these bytes, where a line was begun with some bytes before them
abbrev pub ended_lines : List ℕ → List ℕ → List (List ℕ)
ended_lines begun [] = []
ended_lines begun (byte ∷ bytes) =
    if byte == line_feed then without_return begun ∷ ended_lines [] bytes
    else ended_lines (begun ++ byte ∷ []) bytes

-- the line that stands begun after these bytes, where one was begun with some bytes before them
abbrev pub unended : List ℕ → List ℕ → List ℕ
unended begun [] = begun
unended begun (byte ∷ bytes) =
    if byte == line_feed then unended [] bytes else unended (begun ++ byte ∷ []) bytes

-- the line that the end of the input makes of the bytes after the last LF, if there are any
abbrev pub last_line : List ℕ → List (List ℕ)
last_line [] = []
last_line (byte ∷ bytes) = (byte ∷ bytes) ∷ []

-- the lines of these bytes, with the last one where the input ended after them
abbrev pub lines : List ℕ → Bool → List (List ℕ)
lines bytes true = ended_lines [] bytes ++ last_line (unended [] bytes)
lines bytes false = ended_lines [] bytes

-- no byte of these is an LF
abbrev pub HasNoEnd : List ℕ → Type 0
HasNoEnd bytes = All (λ byte. byte ≢ line_feed) bytes

-- these pieces, each with an LF behind it, and then the rest
abbrev pub rejoined : List (List ℕ) → List ℕ → List ℕ
rejoined [] rest = rest
rejoined (piece ∷ pieces) rest = piece ++ line_feed ∷ rejoined pieces rest

-- the bytes are pieces without LF, each with an LF behind it, and a rest without LF
pub record IsSplitAtEnds (bytes : List ℕ) (pieces : List (List ℕ)) (rest : List ℕ) : Type 0 where
  pub whole : bytes ≡ rejoined pieces rest
  pub pieces_clean : All HasNoEnd pieces
  pub rest_clean : HasNoEnd rest

-- the lines are these pieces, each without its CR, and at the end of the input what follows them
pub record AreLinesOf (bytes : List ℕ) (pieces : List (List ℕ)) (rest : List ℕ) : Type 0 where
  pub before_end : lines bytes false ≡ map without_return pieces
  pub at_end : lines bytes true ≡ map without_return pieces ++ last_line rest
  pub begun : unended [] bytes ≡ rest
