-- What a cutter holds of a line that has begun, and what a cut tells.
use Rattle.std.specs.Prelude.{◌≡◌, ℕ, ◌+◌, ◌<◌, ◌≤◌, nat_le, if◌then◌else◌}
use Rattle.std.specs.Prelude.{List, [], ◌∷◌, length, Option, None, Some}
use Rattle.byte_lines.specs.declared.cutter.TheConstants.{LINE_MOST}
use Rattle.byte_lines.specs.declared.cutter.Cut.{Cut}
use Rattle.byte_lines.specs.declared.cutter.Cut.TheVariants.{Line, Long}

-- the line that has begun, or none where it is longer than the longest line with its CR
abbrev pub held_of : List ℕ → Option (List ℕ)
held_of begun = if nat_le (length begun) (LINE_MOST + 1) then Some begun else None

-- what a cutter holds: the line that has begun, where it is kept, and the line that was cut last
pub record CutterState : Type 0 where
  pub held : Option (List ℕ)
  pub line : List ℕ

-- the cut tells of these lines: none, or one that is lent whole, or one that is too long
abbrev pub TellsOf : Option Cut → List ℕ → List (List ℕ) → Type 0
TellsOf None lent lines = lines ≡ []
TellsOf (Some Line) lent lines = (lines ≡ lent ∷ []) × (length lent ≤ LINE_MOST)
TellsOf (Some Long) lent lines = (line : List ℕ) × (lines ≡ line ∷ []) × (LINE_MOST < length line)
