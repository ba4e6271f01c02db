use Rattle.std.proofs.Common.{◌≡◌, ◌+◌, ◌*◌, min, ◌≤◌, length, take}
use Rattle.std.specs.List.{flat_map}
use Rattle.part_layout.specs.Kept.{lists_of}
use Rattle.part_layout.specs.Text.{layout_text}
use Rattle.part_layout.proofs.pieces.put_parts.Given as goal

abbrev pub invariant-loop-place : goal.invariant-loop-place
invariant-loop-place l =
    (take l.at l.out ≡ layout_text (take l.place (lists_of l.parts)))
    × (l.at + min l.place 1 ≤ 4 * length (flat_map (λ part. part) (take l.place (lists_of l.parts))))
