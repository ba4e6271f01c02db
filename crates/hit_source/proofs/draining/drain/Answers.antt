-- The hits taken after a poll are the next, and none is left at the end.
use Rattle.std.proofs.Common.{◌∙◌, refl, sym, subst, arith, ◌≤◌}
use Rattle.hit_source.proofs.DrainLemmas.{takes_further, drained_then, nearer_end}
use Rattle.hit_source.proofs.draining.drain.Goals as goal

pub returns-in_err-take_waiting-2-clause-takes : goal.returns-in_err-take_waiting-2-clause-takes
returns-in_err-take_waiting-2-clause-takes g c =
    takes_further _ _ _ _ _ _ _ _ _ (c.poll-polled.ensures.asked
    ∙ c.loop.invariant.3) c.loop.invariant.0 c.poll-polled.ensures.polls.given c.take_waiting-in-loop.ensures.takes

pub returns-in-Ended-clause-takes : goal.returns-in-Ended-clause-takes
returns-in-Ended-clause-takes g c =
    takes_further _ _ _ _ _ _ _ _ _ (c.poll-polled.ensures.asked
    ∙ c.loop.invariant.3) c.loop.invariant.0 c.poll-polled.ensures.polls.given c.take_waiting-in-loop.ensures.takes

pub returns-in-Ended-clause-ends : goal.returns-in-Ended-clause-ends
returns-in-Ended-clause-ends g c =
    drained_then _ _ _ _ _ _ _ (c.take_waiting-in-loop.ensures.asked ∙ c.poll-polled.ensures.asked ∙ c.loop.invariant.3)
    (takes_further _ _ _ _ _ _ _ _ _ (c.poll-polled.ensures.asked
    ∙ c.loop.invariant.3) c.loop.invariant.0 c.poll-polled.ensures.polls.given c.take_waiting-in-loop.ensures.takes)
    c.take_waiting-in-loop.ensures.gives c.take_waiting-in-loop.ensures.lawful c.in_ok-take_waiting-2.ensures.empties
    (c.in-Ended.ensures.polls.answers.ended.0 refl)

pub loop-smaller : goal.loop-smaller
loop-smaller g c =
    nearer_end c.args.budget _ _ _ _ _ _ _ _ c.poll-polled.result c.in_default.not-Ended
    (subst (λ a. 1 ≤ a.room) (sym c.loop.invariant.3) c.requires.some_room)
    c.poll-polled.ensures.asked c.take_waiting-in-loop.ensures.asked c.loop.invariant.1 c.poll-polled.ensures.polls
    c.take_waiting-in-loop.ensures.gives c.in_ok-take_waiting-2.ensures.empties c.take_waiting-in-loop.ensures.lawful

pub loop-preserved : goal.loop-preserved
loop-preserved g c = (
  takes_further _ _ _ _ _ _ _ _ _ (c.poll-polled.ensures.asked
      ∙ c.loop.invariant.3) c.loop.invariant.0 c.poll-polled.ensures.polls.given c.take_waiting-in-loop.ensures.takes,
  c.in_ok-take_waiting-2.ensures.empties,
  omega (arith, c.loop.invariant.2, c.poll-polled.ensures.polls.ledger, c.take_waiting-in-loop.ensures.gives.reads),
  c.take_waiting-in-loop.ensures.asked ∙ c.poll-polled.ensures.asked ∙ c.loop.invariant.3,
  c.take_waiting-in-loop.ensures.lawful,
)
