use Rattle.std.proofs.Common.{◌≡◌, take}
use Rattle.part_layout.specs.Laid.{part_at}
use Rattle.layout_search.proofs.places.part_of.Given as goal

abbrev pub invariant-loop-place : goal.invariant-loop-place
invariant-loop-place l = l.positions.items ≡ take l.place (part_at l.layout l.part)
