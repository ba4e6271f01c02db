-- The build of the shard may stand in for it, and is swapped in or stays.
use Rattle.std.proofs.Common.{◌≡◌, ◌<◌, length, Some, subst, arith}
use Rattle.std.specs.Prelude.{slice_get, slice_set}
use Rattle.world_model.specs.Events.{Swap}
use Rattle.world_model.specs.WorldStep.{WorldStep}
use Rattle.gph_world.specs.Seen.{setting_seen, state_seen}
use Rattle.gph_world.specs.Worlds.{WorldView}
use Rattle.world_parts.proofs.ListLemmas.{found_there}
use Rattle.gph_world.proofs.PlaceLemmas.{stepped_keeps}
use Rattle.gph_world.proofs.SwapLemmas.{may_be_swapped, swap_step}
use Rattle.gph_world.proofs.world.World.swap.Goals as goal

pub swap_in-requires : goal.swap_in-requires
swap_in-requires g c =
    let i = c.self.inside in
    let low : c.args.shard < length i.places.items = omega (arith, c.if-number-len.false, c.len.ensures, i.places.ok.0) in (
      omega arith,
      may_be_swapped i.bits i.room i.journal i.places.items i.queries.items c.args.shard low c.index_mut.result.now
          (found_there i.places.items c.args.shard c.index_mut.result.now low c.index_mut.ensures.value) c.self.invariant,
    )

module _ (g : _) (c : goal.After-self-1 g) where
  low : c.args.shard < length c.self.inside.places.items
  low = omega (arith, c.if-number-len.false, c.len.ensures, c.self.inside.places.ok.0)

  there : slice_get c.self.inside.places.items c.args.shard ≡ Some c.index_mut.result.now
  there = found_there c.self.inside.places.items c.args.shard c.index_mut.result.now low c.index_mut.ensures.value

  stepped : WorldStep (setting_seen c.self.inside.bits c.self.inside.room c.self.inside.journal c.self.inside.places.items)
      (state_seen c.self.inside.bits c.self.inside.journal c.self.inside.places.items c.self.inside.queries.items)
      (Swap c.args.shard) c.swap_in.result
      (state_seen c.self.inside.bits c.self.inside.journal (slice_set c.self.inside.places.items c.args.shard c.swap_in.new.place)
      c.self.inside.queries.items)
  stepped = swap_step c.self.inside.bits c.self.inside.room c.self.inside.journal c.self.inside.places.items c.self.inside.queries.items
      c.args.shard low c.index_mut.result.now there c.swap_in.new.place c.swap_in.result c.swap_in.ensures

pub invariant_of-self : goal.invariant_of-self
invariant_of-self g c =
    let i = c.self.inside in
    stepped_keeps i.bits i.room i.journal i.places.items i.queries.items c.args.shard c.swap_in.new.place c.self.invariant (Swap c.args.shard)
    c.swap_in.result tt (stepped g c)

pub returns-clause-step : goal.returns-clause-step
returns-clause-step g c =
    subst (λ (w : WorldView). WorldStep w.setting w.state (Swap c.args.shard) c.swap_in.result
    (state_seen c.self.inside.bits c.self.inside.journal (slice_set c.self.inside.places.items c.args.shard c.swap_in.new.place)
    c.self.inside.queries.items)) c.self.view_is (stepped g c)
