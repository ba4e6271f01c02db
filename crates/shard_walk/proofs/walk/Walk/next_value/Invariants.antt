use Rattle.std.proofs.Common.{◌≡◌, ◌-◌, length}
use Rattle.shard_walk.specs.Planned.{parts_of}
use Rattle.shard_walk.specs.Walks.{IsWalkPlace, hits_left, reads_left, values_left}
use Rattle.shard_walk.proofs.walk.Walk.next_value.Given as goal

abbrev pub invariant-loop-self : goal.invariant-loop-self
invariant-loop-self g l =
    IsWalkPlace l.plan l.self
    × (l.self.next ≡ l.self.size)
    × (hits_left l.plan l.self ≡ hits_left l.plan l.fn.self)
    × (reads_left l.plan l.self ≡ reads_left l.plan l.fn.self)
    × (values_left l.plan l.self ≡ values_left l.plan l.fn.self)

abbrev pub decreases-loop-self : goal.decreases-loop-self
decreases-loop-self g l = length (parts_of l.plan) - l.self.part
