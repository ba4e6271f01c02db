use Rattle.std.proofs.Common.{◌*◌, arith}
use Rattle.gph_codes.specs.Masks.{mask_of}
use Rattle.part_layout.specs.Laid.{part_at}
use Rattle.shard_version.proofs.MaskLemmas.{mask_step, mask_end}
use Rattle.shard_version.proofs.masked_layout.mask_of.Goals as goal

pub loop-place-preserved : goal.loop-place-preserved
loop-place-preserved g c =
    mask_step c.loop-place.mask c.set.new.self (part_at c.args.layout.now c.args.part)
    (mask_of (64 * g.row.W) (part_at c.args.layout.now c.args.part)) c.loop-place.place c.position.result
    (omega arith) c.position.ensures.position c.set.ensures c.loop-place.invariant

pub returns : goal.returns
returns g c =
    mask_end c.loop-place.mask (part_at c.args.layout.now c.args.part)
    (mask_of (64 * g.row.W) (part_at c.args.layout.now c.args.part)) c.loop-place.place (omega arith) c.loop-place.invariant
