-- The hit that was pushed is the next, and it was given then.
use Rattle.std.proofs.Common.{◌∙◌}
use Rattle.hit_source.proofs.DrainLemmas.{takes_more, gives_first}
use Rattle.hit_source.proofs.draining.take_waiting.Goals as goal

pub loop-hit-preserved : goal.loop-hit-preserved
loop-hit-preserved g c = (
  takes_more _ _ _ _ _ _ _ _ _ _ c.loop-hit.invariant.2 c.loop-hit.invariant.0 c.in-Some.ensures.lawful
      c.in-Some.ensures.head c.pop-given.ensures.pops c.in_ok-push.ensures.items,
  gives_first _ _ _ _ c.loop-hit.invariant.1 c.pop-given.ensures.pops,
  c.pop-given.ensures.asked ∙ c.loop-hit.invariant.2,
)
