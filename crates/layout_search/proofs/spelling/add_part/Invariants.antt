use Rattle.std.proofs.Common.{◌≡◌, ◌++◌, take}
use Rattle.part_layout.specs.Text.{part_text}
use Rattle.layout_search.proofs.spelling.add_part.Given as goal

abbrev pub invariant-loop-place : goal.invariant-loop-place
invariant-loop-place l = l.text.items ≡ l.fn.text.items ++ part_text (take l.place l.part)
