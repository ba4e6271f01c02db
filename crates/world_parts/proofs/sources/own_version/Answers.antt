-- The version of a shard where it isn't the one more.
use Rattle.std.proofs.Common.{ap, ◌∙◌, Some}
use Rattle.world_parts.proofs.ListLemmas.{found_there}
use Rattle.world_parts.proofs.SourceLemmas.{none_other, own_other}
use Rattle.world_parts.proofs.sources.own_version.Goals as goal

pub unreachable-requires : goal.unreachable-requires
unreachable-requires g c =
    none_other c.args.pins.now c.args.place c.args.version.now c.args.shard c.requires.all c.requires.low c.if-shard-place.false
    (found_there c.args.pins.now c.args.shard c.index-pins-shard.result c.requires.low c.index-pins-shard.is ∙ ap Some c.in_default.is)

pub returns : goal.returns
returns g c =
    own_other c.args.pins.now c.args.place c.args.version.now c.args.shard c.in-Some.pin c.in_ok-own.own c.if-shard-place.false
    (found_there c.args.pins.now c.args.shard c.index-pins-shard.result c.requires.low c.index-pins-shard.is ∙ ap Some c.in-Some.is)
    c.in_ok-own.ensures.cases
