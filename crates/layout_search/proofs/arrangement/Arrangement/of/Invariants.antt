use Rattle.std.proofs.Common.{◌≡◌, take}
use Rattle.part_layout.specs.Kept.{lists_of}
use Rattle.layout_search.proofs.arrangement.Arrangement.of.Given as goal

abbrev pub invariant-loop-part : goal.invariant-loop-part
invariant-loop-part l = lists_of l.parts.items ≡ take l.part l.layout.parts
