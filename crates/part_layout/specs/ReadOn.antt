-- How a layout text is read, byte by byte and position by position.
-- No public clause cites this module.
use Rattle.std.specs.Prelude.{◌≡◌, ℕ, ◌+◌, ◌<◌, ◌==◌, ◌||◌, nat_lt, if◌then◌else◌, Bool, false, List, [], ◌∷◌, slice_index_or, Option, Some, None}
use Rattle.std.specs.Char.{is_digit}
use Rattle.std.specs.List.{onto_first}
use Rattle.hamming_model.specs.declared.limits.TheConstants.{BITS_MOST}
use Rattle.part_layout.specs.Faults.{numbers_of, stands_in}
use Rattle.part_layout.specs.Grammar.{IsLayoutText, spelled}
use Rattle.part_layout.specs.declared.cursor.ListedPosition.{ListedPosition}

-- a comma or a slash
abbrev pub is_mark : ℕ → Bool
is_mark byte = (byte == 44) || (byte == 47)

-- how many digits the last position of a begun text has once a byte follows, where it may
abbrev pub digits_after : ℕ → ℕ → Option ℕ
digits_after digits byte =
    if is_digit byte 10 then (if nat_lt digits 3 then Some (digits + 1) else None)
    else (if is_mark byte then (if nat_lt 0 digits then Some 0 else None) else None)

-- whether bytes end a begun text whose last position has so many digits
abbrev pub ends_text : ℕ → List ℕ → Bool
ends_text digits [] = nat_lt 0 digits
ends_text digits (byte ∷ bytes) =
    elim (digits_after digits byte) [ None ↦ false | Some more ↦ ends_text more bytes ]

-- the parts that the rest of a text spells; nothing spells none
abbrev pub parts_left : List ℕ → List (List ℕ)
parts_left [] = []
parts_left (byte ∷ bytes) = spelled (byte ∷ bytes)

-- the numbers that the rest of a text lists
abbrev pub numbers_left : List ℕ → List ℕ
numbers_left rest = numbers_of (parts_left rest)

-- the rest of a text: nothing, or a text
abbrev pub IsRest : List ℕ → Type 0
IsRest [] = Unit {0}
IsRest (byte ∷ bytes) = IsLayoutText (byte ∷ bytes)

-- parts with one position before them, the last of its part or one before others
abbrev pub grown : ListedPosition → List (List ℕ) → List (List ℕ)
grown listed parts =
    if listed.ends_part then (listed.position ∷ []) ∷ parts else onto_first listed.position parts

-- a text lists a position first, and has this rest after its mark
abbrev pub Lists : List ℕ → ListedPosition → List ℕ → Type 0
Lists text listed rest = parts_left text ≡ grown listed (parts_left rest)

-- a text spells a part first, and has this rest after its mark
abbrev pub BeginsWith : List ℕ → List ℕ → List ℕ → Type 0
BeginsWith text part rest = parts_left text ≡ part ∷ parts_left rest

-- a table tells which positions stand among numbers
abbrev pub Tells : List Bool → List ℕ → Type 0
Tells table numbers = (position : ℕ) → position < BITS_MOST → slice_index_or table position false
    ≡ stands_in numbers position
