-- What the loop keeps: the first shards stand before the first entry.
use Rattle.std.specs.Arc.{arc_value}
use Rattle.world_parts.specs.Starts.{ArePlacesBegun}
use Rattle.world_parts.proofs.starting.first_places.Given as goal

abbrev pub invariant-loop-number : goal.invariant-loop-number
invariant-loop-number g l = ArePlacesBegun l.fn.shards (arc_value l.layout) l.places.items l.number
