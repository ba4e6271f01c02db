use Rattle.std.proofs.Common.{◌≡◌, ◌++◌, ◌+◌, ◌≤◌, length}
use Rattle.std.specs.List.{AllByRecursion}
use Rattle.std.specs.Vec.{vec_capacity}
use Rattle.std.specs.Vec.Iter.{into_iter_items, into_iter_len}
use Rattle.gph_world.specs.Happenings.{IsEventFor, events_seen}
use Rattle.gph_world.proofs.RunLemmas.{HasTaken}
use Rattle.gph_world.proofs.world.World.run.Given as goal

abbrev pub invariant-loop-event : goal.invariant-loop-event
invariant-loop-event g l =
    (goal.iterator-loop-event g).can_next l.event-iterator
    × (goal.iterator-loop-event g).is_finite l.event-iterator
    × (l.yielded ++ into_iter_items l.event-iterator ≡ into_iter_items l.initial.event-iterator)
    × (into_iter_len l.event-iterator ≡ length (into_iter_items l.event-iterator))
    × AllByRecursion (IsEventFor l.initial.self.setting) (into_iter_items l.event-iterator)
    × HasTaken l.initial.self.setting l.initial.self.state l.self (events_seen l.initial.self.setting.bits l.yielded) l.answers.items
    l.initial.upkeep l.upkeep l.initial.meters l.meters
    × (length l.answers.items + length (into_iter_items l.event-iterator) ≤ vec_capacity l.answers)
