-- The versions and the sources are let go, and known as before.
use Rattle.std.proofs.Common.{refl}
use Rattle.world_parts.proofs.HeldLemmas.{held_is}
use Rattle.world_parts.proofs.cancelling.cancel_query.Goals as goal

pub returns-in-Some-clause-cancelled : goal.returns-in-Some-clause-cancelled
returns-in-Some-clause-cancelled g c = record {
  no_pins = c.clear.ensures.items;
  rest = held_is _ _ refl refl c.take.ensures.after refl c.take-2.ensures.after refl refl refl refl;
}

pub returns-in-None-clause-cancelled : goal.returns-in-None-clause-cancelled
returns-in-None-clause-cancelled g c = record {
  no_pins = c.clear.ensures.items;
  rest = held_is _ _ refl refl c.take.ensures.after refl c.take-2.ensures.after refl refl refl refl;
}
