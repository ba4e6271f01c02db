-- An event is no larger than its code, and one that was read is one for the world.
use Rattle.std.proofs.Common.{arith}
use Rattle.event_world.proofs.event_world.EventWorldMeetsEvents.meet.Goals as goal

pub step-requires : goal.step-requires
step-requires g c =
    (omega arith, (grind (arith, c.requires.few_words), c.program_event.ensures.fit c.args.self.now.world.setting c.requires.fit))
