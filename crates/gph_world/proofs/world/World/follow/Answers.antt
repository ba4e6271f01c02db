-- The build of the shard follows the history, if there is one with all rows placed.
use Rattle.std.proofs.Common.{◌≡◌, ◌+◌, ◌<◌, ◌≤◌, length, Some, subst, arith}
use Rattle.std.specs.Prelude.{slice_get, slice_set}
use Rattle.world_model.specs.Events.{Follow}
use Rattle.world_model.specs.WorldStep.{WorldStep}
use Rattle.gph_world.specs.Seen.{state_seen}
use Rattle.gph_world.specs.Upkeep.{entries_unfollowed}
use Rattle.gph_world.specs.Worlds.{WorldView}
use Rattle.gph_world.proofs.FollowLemmas.{follow_bound, follow_leaves, may_follow}
use Rattle.world_parts.proofs.ListLemmas.{found_there}
use Rattle.gph_world.proofs.world.World.follow.Goals as goal

pub follow_history-requires : goal.follow_history-requires
follow_history-requires g c =
    let i = c.self.inside in
    let low : c.args.shard < length i.places.items = omega (arith, c.if-number-len.false, c.len.ensures, i.places.ok.0) in (
      omega arith,
      (
        omega arith,
        may_follow i.bits i.room i.journal i.places.items i.queries.items c.self.invariant c.args.shard low c.index_mut.result.now
            (found_there i.places.items c.args.shard c.index_mut.result.now low c.index_mut.ensures.value),
      ),
    )

module _ (g : _) (c : goal.After-self-1 g) where
  low : c.args.shard < length c.self.inside.places.items
  low = omega (arith, c.if-number-len.false, c.len.ensures, c.self.inside.places.ok.0)

  there : slice_get c.self.inside.places.items c.args.shard ≡ Some c.index_mut.result.now
  there = found_there c.self.inside.places.items c.args.shard c.index_mut.result.now low c.index_mut.ensures.value

pub invariant_of-self : goal.invariant_of-self
invariant_of-self g c =
    let i = c.self.inside in
    (follow_leaves i.bits i.room i.journal i.places.items i.queries.items c.self.invariant c.args.shard (low g c) c.index_mut.result.now (there g c)
    c.follow_history.new.place c.follow_history.new.journal c.follow_history.ensures.journal c.follow_history.result c.follow_history.ensures.follows).0

pub returns-clause-step : goal.returns-clause-step
returns-clause-step g c =
    subst (λ (w : WorldView). WorldStep w.setting w.state (Follow c.args.shard) c.follow_history.result
    (state_seen c.self.inside.bits c.follow_history.new.journal (slice_set c.self.inside.places.items c.args.shard c.follow_history.new.place)
    c.self.inside.queries.items)) c.self.view_is
    (follow_leaves c.self.inside.bits c.self.inside.room c.self.inside.journal c.self.inside.places.items c.self.inside.queries.items
    c.self.invariant c.args.shard (low g c) c.index_mut.result.now (there g c) c.follow_history.new.place
    c.follow_history.new.journal c.follow_history.ensures.journal c.follow_history.result c.follow_history.ensures.follows).1

pub returns-clause-bound : goal.returns-clause-bound
returns-clause-bound g c =
    subst (λ (w : WorldView). c.follow_history.new.steps ≤ c.args.steps.now + entries_unfollowed w.state c.args.shard) c.self.view_is
    (follow_bound c.self.inside.bits c.self.inside.room c.self.inside.journal c.self.inside.places.items c.self.inside.queries.items
    c.self.invariant c.args.shard (low g c) c.index_mut.result.now (there g c) c.args.steps.now c.follow_history.new.steps c.follow_history.ensures.bound)
