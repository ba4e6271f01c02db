-- The build of the shard places rows, if there is one.
use Rattle.std.proofs.Common.{◌≡◌, ◌+◌, ◌<◌, length, Some, subst, arith}
use Rattle.std.specs.Prelude.{min, slice_get, slice_set}
use Rattle.world_model.specs.Events.{BuildStep}
use Rattle.world_model.specs.WorldStep.{WorldStep}
use Rattle.gph_world.specs.Seen.{setting_seen, state_seen}
use Rattle.gph_world.specs.Upkeep.{rows_unplaced}
use Rattle.gph_world.specs.Worlds.{WorldView}
use Rattle.gph_world.proofs.BuildLemmas.{rows_cost, rows_step}
use Rattle.world_parts.proofs.ListLemmas.{found_there}
use Rattle.gph_world.proofs.PlaceLemmas.{stepped_keeps}
use Rattle.gph_world.proofs.world.World.build_step.Goals as goal

module _ (g : _) (c : goal.After-self-1 g) where
  low : c.args.shard < length c.self.inside.places.items
  low = omega (arith, c.if-number-len.false, c.len.ensures, c.self.inside.places.ok.0)

  there : slice_get c.self.inside.places.items c.args.shard ≡ Some c.index_mut.result.now
  there = found_there c.self.inside.places.items c.args.shard c.index_mut.result.now low c.index_mut.ensures.value

  stepped : WorldStep (setting_seen c.self.inside.bits c.self.inside.room c.self.inside.journal c.self.inside.places.items)
      (state_seen c.self.inside.bits c.self.inside.journal c.self.inside.places.items c.self.inside.queries.items)
      (BuildStep c.args.shard c.args.rows) c.place_rows.result
      (state_seen c.self.inside.bits c.self.inside.journal (slice_set c.self.inside.places.items c.args.shard c.place_rows.new.place)
      c.self.inside.queries.items)
  stepped = rows_step c.self.inside.bits c.self.inside.room c.self.inside.journal c.self.inside.places.items c.self.inside.queries.items
      c.args.shard low c.index_mut.result.now there c.place_rows.new.place c.args.rows
      c.place_rows.result c.place_rows.ensures.places

pub invariant_of-self : goal.invariant_of-self
invariant_of-self g c =
    let i = c.self.inside in
    stepped_keeps i.bits i.room i.journal i.places.items i.queries.items c.args.shard c.place_rows.new.place c.self.invariant
    (BuildStep c.args.shard c.args.rows) c.place_rows.result tt (stepped g c)

pub returns-clause-step : goal.returns-clause-step
returns-clause-step g c =
    subst (λ (w : WorldView). WorldStep w.setting w.state (BuildStep c.args.shard c.args.rows) c.place_rows.result
    (state_seen c.self.inside.bits c.self.inside.journal (slice_set c.self.inside.places.items c.args.shard c.place_rows.new.place)
    c.self.inside.queries.items)) c.self.view_is (stepped g c)

pub returns-clause-steps : goal.returns-clause-steps
returns-clause-steps g c =
    subst (λ (w : WorldView). c.place_rows.new.steps ≡ c.args.steps.now + min c.args.rows (rows_unplaced w.state c.args.shard)) c.self.view_is
    (rows_cost c.self.inside.bits c.self.inside.room c.self.inside.journal c.self.inside.places.items c.self.inside.queries.items
    c.args.shard (low g c) c.index_mut.result.now (there g c) c.args.steps.now c.place_rows.new.steps c.args.rows c.place_rows.ensures.steps)
