-- The grammar of a layout text: parts with a slash between each two, in a part positions with a
-- comma between each two, and each position one to three decimal digits; and where a text that is
-- none goes wrong.
use Rattle.std.specs.Prelude.{◌≡◌, ℕ, ◌+◌, ◌<◌, ◌==◌, ◌&&◌, ◌⊎◌, nat_le, Bool, true, List, ◌++◌, map, length, take}
use Rattle.std.specs.Char.{is_digit}
use Rattle.std.specs.List.{list_all, slice_split}
use Rattle.std.specs.Str.Parse.{digits_value}

-- one to three decimal digits
abbrev pub is_position_text : List ℕ → Bool
is_position_text word =
    nat_le 1 (length word) && (nat_le (length word) 3 && list_all (λ byte. is_digit byte 10) word)

-- the texts of a part's positions: commas part them
abbrev pub texts_of_part : List ℕ → List (List ℕ)
texts_of_part part = slice_split (λ byte. byte == 44) part

-- the texts of the positions of each part: slashes part the parts
abbrev pub position_texts : List ℕ → List (List (List ℕ))
position_texts text = map texts_of_part (slice_split (λ byte. byte == 47) text)

-- whether a text is one of the grammar
abbrev pub is_layout_text : List ℕ → Bool
is_layout_text text = list_all (λ part. list_all is_position_text part) (position_texts text)

-- a text of the grammar
abbrev pub IsLayoutText : List ℕ → Type 0
IsLayoutText text = is_layout_text text ≡ true

-- the parts that a text spells, each the list of its positions
abbrev pub spelled : List ℕ → List (List ℕ)
spelled text = map (λ part. map (digits_value 10) part) (position_texts text)

-- a text of the grammar begins with these bytes
abbrev pub IsPrefixOfText : List ℕ → Type 0
IsPrefixOfText bytes = (rest : List ℕ) × IsLayoutText (bytes ++ rest)

-- at each byte before a place, the text up to and with that byte begins one of the grammar
abbrev pub IsPrefixBefore : List ℕ → ℕ → Type 0
IsPrefixBefore text place = (at : ℕ) → at < place → IsPrefixOfText (take (at + 1) text)

-- this is the first byte at which the text up to and with that byte begins none of the grammar
pub record IsBrokenAt (text : List ℕ) (at : ℕ) : Type 0 where
  pub inside : at < length text
  pub broken : IsPrefixOfText (take (at + 1) text) → ⊥
  pub first : IsPrefixBefore text at

-- there is no such byte, and the text is none of the grammar; this is its length
pub record IsCutOffAt (text : List ℕ) (at : ℕ) : Type 0 where
  pub ended : at ≡ length text
  pub none : IsLayoutText text → ⊥
  pub begun : IsPrefixBefore text at

-- where a text that is none of the grammar goes wrong
abbrev pub IsSyntaxFault : List ℕ → ℕ → Type 0
IsSyntaxFault text at = IsBrokenAt text at ⊎ IsCutOffAt text at
