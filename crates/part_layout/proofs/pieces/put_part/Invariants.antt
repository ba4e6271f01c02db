use Rattle.std.proofs.Common.{◌≡◌, ◌+◌, ◌*◌, min, ◌≤◌, ◌++◌, take}
use Rattle.part_layout.specs.Text.{part_text}
use Rattle.part_layout.proofs.pieces.put_part.Given as goal

abbrev pub invariant-loop-place : goal.invariant-loop-place
invariant-loop-place l =
    (take l.end l.out ≡ take l.at l.initial.out ++ part_text (take l.place l.part))
    × (l.end + min l.place 1 ≤ l.at + 4 * l.place)
