use Rattle.std.proofs.Common.{◌≡◌, take}
use Rattle.part_layout.specs.Kept.{lists_of}
use Rattle.part_layout.specs.Text.{layout_text}
use Rattle.layout_search.proofs.spelling.text_of.Given as goal

abbrev pub invariant-loop-place : goal.invariant-loop-place
invariant-loop-place l = l.text.items ≡ layout_text (take l.place (lists_of l.parts))
