use Rattle.std.proofs.Common.{◌≡◌, ℕ, ◌^◌, ◌<◌, List, take}
use Rattle.hamming_model.specs.Codes.{StandsFor}
use Rattle.hamming_model.specs.Layouts.{part_value}
use Rattle.layout_search.proofs.places.value_at.Given as goal

abbrev pub invariant-loop-position : goal.invariant-loop-position
invariant-loop-position g l =
    ((x : List ℕ) → StandsFor g.row.W l.bits l.code x → l.value ≡ part_value x (take l.position-index l.part))
    × (l.value < 2 ^ l.position-index)
