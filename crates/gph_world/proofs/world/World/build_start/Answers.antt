-- A build of the shard begins, if none goes on.
use Rattle.std.proofs.Common.{◌≡◌, ◌+◌, ◌<◌, ◌≤◌, length, Some, sym, subst, ◌∙◌, arith}
use Rattle.std.specs.Arc.{arc_value}
use Rattle.std.specs.Prelude.{slice_get, slice_set}
use Rattle.world_model.specs.Events.{BuildStart, IsLayoutFor}
use Rattle.world_model.specs.WorldStep.{WorldStep}
use Rattle.gph_world.specs.Seen.{setting_seen, state_seen}
use Rattle.gph_world.specs.Upkeep.{rows_there}
use Rattle.gph_world.specs.Worlds.{WorldView}
use Rattle.gph_world.proofs.BuildLemmas.{kept_there, rows_bound, start_step}
use Rattle.world_parts.proofs.ListLemmas.{found_there}
use Rattle.gph_world.proofs.PlaceLemmas.{stepped_keeps}
use Rattle.gph_world.proofs.world.World.build_start.Goals as goal

pub begin_build-requires : goal.begin_build-requires
begin_build-requires g c =
    let i = c.self.inside in
    let low : c.args.shard < length i.places.items = omega (arith, c.if-number-len.false, c.len.ensures, i.places.ok.0) in
    let is : IsLayoutFor i.bits (arc_value c.args.layout) =
    subst (λ (w : WorldView). IsLayoutFor w.setting.bits (arc_value c.args.layout)) (sym c.self.view_is) c.requires.layout in
    let kept = kept_there i.bits i.room i.journal i.places.items i.queries.items c.args.shard low c.index_mut.result.now
    (found_there i.places.items c.args.shard c.index_mut.result.now low c.index_mut.ensures.value) c.self.invariant in
    (omega arith, (c.self.invariant.few_words, (is.laid, is.bits_are ∙ sym kept.of_shard.layout.bits_are)))

module _ (g : _) (c : goal.After-self-1 g) where
  low : c.args.shard < length c.self.inside.places.items
  low = omega (arith, c.if-number-len.false, c.len.ensures, c.self.inside.places.ok.0)

  there : slice_get c.self.inside.places.items c.args.shard ≡ Some c.index_mut.result.now
  there = found_there c.self.inside.places.items c.args.shard c.index_mut.result.now low c.index_mut.ensures.value

  stepped : WorldStep (setting_seen c.self.inside.bits c.self.inside.room c.self.inside.journal c.self.inside.places.items)
      (state_seen c.self.inside.bits c.self.inside.journal c.self.inside.places.items c.self.inside.queries.items)
      (BuildStart c.args.shard (arc_value c.args.layout)) c.begin_build.result
      (state_seen c.self.inside.bits c.self.inside.journal (slice_set c.self.inside.places.items c.args.shard c.begin_build.new.place)
      c.self.inside.queries.items)
  stepped = start_step c.self.inside.bits c.self.inside.room c.self.inside.journal c.self.inside.places.items c.self.inside.queries.items
      c.args.shard low c.index_mut.result.now there c.begin_build.new.place (arc_value c.args.layout)
      c.begin_build.result c.begin_build.ensures.begins

pub invariant_of-self : goal.invariant_of-self
invariant_of-self g c =
    let i = c.self.inside in
    stepped_keeps i.bits i.room i.journal i.places.items i.queries.items c.args.shard c.begin_build.new.place c.self.invariant
    (BuildStart c.args.shard (arc_value c.args.layout)) c.begin_build.result
    (subst (λ (w : WorldView). IsLayoutFor w.setting.bits (arc_value c.args.layout)) (sym c.self.view_is) c.requires.layout) (stepped g c)

pub returns-clause-step : goal.returns-clause-step
returns-clause-step g c =
    subst (λ (w : WorldView). WorldStep w.setting w.state (BuildStart c.args.shard (arc_value c.args.layout)) c.begin_build.result
    (state_seen c.self.inside.bits c.self.inside.journal (slice_set c.self.inside.places.items c.args.shard c.begin_build.new.place)
    c.self.inside.queries.items)) c.self.view_is (stepped g c)

pub returns-clause-bound : goal.returns-clause-bound
returns-clause-bound g c =
    subst (λ (w : WorldView). c.begin_build.new.steps ≤ c.args.steps.now + rows_there w.state c.args.shard) c.self.view_is
    (rows_bound c.self.inside.bits c.self.inside.room c.self.inside.journal c.self.inside.places.items c.self.inside.queries.items
    c.args.shard (low g c) c.index_mut.result.now (there g c) c.args.steps.now c.begin_build.new.steps c.begin_build.ensures.bound)
