-- The text of a layout.
use Rattle.std.specs.Prelude.{◌≡◌, ℕ, ◌==◌, ◌||◌, Bool, true, List, map, decimal}
use Rattle.std.specs.Char.{is_digit}
use Rattle.std.specs.List.{join_with_byte, list_all}
use Rattle.part_layout.specs.Laid.{Laid, IsLaid}

-- the positions in decimal, with a comma between each two
abbrev pub part_text : List ℕ → List ℕ
part_text part = join_with_byte 44 (map decimal part)

-- the parts in order, with a slash between each two
abbrev pub layout_text : List (List ℕ) → List ℕ
layout_text parts = join_with_byte 47 (map part_text parts)

-- the text of a layout of an allowed number of bits
abbrev pub IsTextOfLayout : List ℕ → Type 0
IsTextOfLayout text = (layout : Laid) × IsLaid layout × (text ≡ layout_text layout.parts)

-- a digit, a comma or a slash
abbrev pub is_layout_byte : ℕ → Bool
is_layout_byte byte = is_digit byte 10 || ((byte == 44) || (byte == 47))

-- every byte is a digit, a comma or a slash
abbrev pub HasLayoutBytes : List ℕ → Type 0
HasLayoutBytes text = list_all is_layout_byte text ≡ true
