-- What the loop keeps: the first shards stand before the first entry, and none is pinned.
use Rattle.session_desk.specs.Solos.{AreFirstShards}
use Rattle.session_desk.proofs.solo.SoloDesk.new.Given as goal

abbrev pub invariant-loop-number : goal.invariant-loop-number
invariant-loop-number g l = AreFirstShards l.fn.config l.shards.items l.pins.items l.number
