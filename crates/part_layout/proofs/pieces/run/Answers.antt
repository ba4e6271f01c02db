use Rattle.std.proofs.Common.{◌+◌, refl}
use Rattle.part_layout.proofs.RunLemmas.{range_pushed}
use Rattle.part_layout.proofs.pieces.run.Goals as goal

pub loop-offset-preserved : goal.loop-offset-preserved
loop-offset-preserved c =
    range_pushed c.loop-offset.part.items c.push.new.self.items c.args.first c.loop-offset.offset (c.args.first + c.loop-offset.offset) c.loop-offset.invariant
    c.in_ok-push.ensures.items refl
