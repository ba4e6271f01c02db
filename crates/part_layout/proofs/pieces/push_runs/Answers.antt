use Rattle.std.proofs.Common.{◌+◌, ◌*◌, refl}
use Rattle.part_layout.proofs.RunLemmas.{runs_pushed}
use Rattle.part_layout.proofs.pieces.push_runs.Goals as goal

pub loop-done-preserved : goal.loop-done-preserved
loop-done-preserved c =
    runs_pushed _ c.loop-done.parts.items c.push.new.self.items _ c.loop-done.done c.args.width c.args.first
    (c.args.first + c.loop-done.done * c.args.width) c.in_ok-push.ensures.items c.loop-done.invariant c.in_ok-part.ensures refl
