-- One shard more stands before the first entry.
use Rattle.std.proofs.Common.{◌+◌, List, subst, sym, ap}
use Rattle.std.specs.Arc.{arc_value}
use Rattle.std.specs.Prelude.{None}
use Rattle.versioned_shard.specs.Shards.{ShardState}
use Rattle.world_model.specs.WorldState.{ShardWithBuild}
use Rattle.world_parts.specs.Starts.{ArePlacesBegun}
use Rattle.world_parts.specs.declared.place.Place.{Place}
use Rattle.world_parts.proofs.StartLemmas.{one_more_begun}
use Rattle.world_parts.proofs.starting.first_places.Goals as goal

pub loop-number-preserved : goal.loop-number-preserved
loop-number-preserved g c =
    let place : Place g.row.W = record { shard = c.in_ok-shard.shard; build = None } in
    subst (λ (places : List (Place g.row.W)). ArePlacesBegun c.args.shards (arc_value c.args.layout.now) places (c.loop-number.number + 1))
    (sym c.in_ok-push.ensures.items)
    (one_more_begun c.args.shards (arc_value c.args.layout.now) c.loop-number.places.items c.loop-number.number place c.loop-number.invariant
    (ap (λ (shard : ShardState). let seen : ShardWithBuild = record { shard = shard; build = None } in seen) c.in_ok-shard.ensures))
