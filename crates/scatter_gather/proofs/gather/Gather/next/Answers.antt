-- What is given is the next of the answer as it was left at the call.
use Rattle.std.proofs.Common.{◌≡◌, ◌∙◌, ap, arith, sym, subst, None, true, false}
use Rattle.std.specs.Prelude.{is_some, IfSome, ◌≤◌}
use Rattle.hit_source.specs.Moves.{first_of}
use Rattle.scatter_gather.specs.Gathering.{seen, answer_left, gathered}
use Rattle.scatter_gather.specs.Due.{some_due}
use Rattle.scatter_gather.specs.Kept.{IsGathering}
use Rattle.scatter_gather.specs.Polling.{PollsAll}
use Rattle.scatter_gather.specs.Moves.{GivesReady, BeginsUpTo, BegunWithin, distance_of}
use Rattle.scatter_gather.proofs.NextLemmas.{waited_left, waited_again, loop_todo, gave_one, ready_stays}
use Rattle.scatter_gather.proofs.BeginLemmas.{round_begins, begins_more, begins_given, within_next}
use Rattle.scatter_gather.proofs.ReadyLemmas.{all_lawful}
use Rattle.scatter_gather.proofs.MoreLemmas.{ends_at_limit, not_due, waited_rows}
use Rattle.hit_source.specs.Sources.{IsLawful}
use Rattle.scatter_gather.proofs.gather.Gather.next.Given.{Over}
use Rattle.scatter_gather.proofs.gather.Gather.next.Goals as goal

-- the sources keep their laws
lawful : (g : Over) (source : g.row.H.Denot) → IsLawful (g.H.HitSource.asked source) (g.H.HitSource.standing source)
lawful g = (g.met.H.HitSource g.world.𝓛 g.world.𝓜 g.world.𝓡 ((λ s x. x), (λ x. x), (λ x. x), λ x. x)).lawful

pub returns-in-Some-clause-gives : goal.returns-in-Some-clause-gives
returns-in-Some-clause-gives g c =
    sym c.in-Some.ensures.gives
    ∙ ap first_of (waited_left g.H.HitSource.asked g.H.HitSource.standing c.args.self.now c.loop-hit.self
    c.args.meters.now c.loop-hit.meters c.loop-hit.invariant.0)

pub returns-in-Some-clause-gave : goal.returns-in-Some-clause-gave
returns-in-Some-clause-gave g c =
    gave_one g.H.HitSource.asked g.H.HitSource.standing c.args.self.now c.loop-hit.self c.ready.new.self
    c.args.meters.now c.loop-hit.meters c.in-Some.hit c.loop-hit.invariant.0
    (subst (λ r. GivesReady g.H.HitSource.asked g.H.HitSource.standing c.loop-hit.self c.ready.new.self r)
    c.in-Some.is c.ready.ensures.after)

pub returns-in_default-poll_some-clause-gives : goal.returns-in_default-poll_some-clause-gives
returns-in_default-poll_some-clause-gives g c =
    let held : some_due (seen g.H.HitSource.asked g.H.HitSource.standing c.loop-hit.self) ≡ false =
    subst (λ x. some_due (seen g.H.HitSource.asked g.H.HitSource.standing x) ≡ false)
    (ready_stays g.H.HitSource.asked g.H.HitSource.standing c.loop-hit.self c.ready.new.self _ c.in_default.is c.ready.ensures.after)
    (sym c.poll_some.ensures.due ∙ ap is_some c.in_default-poll_some.is) in
    sym (c.ready.ensures.none_left c.in_default.is held)
    ∙ ap first_of (waited_left g.H.HitSource.asked g.H.HitSource.standing c.args.self.now c.loop-hit.self
    c.args.meters.now c.loop-hit.meters c.loop-hit.invariant.0)

pub loop-hit-smaller : goal.loop-hit-smaller
loop-hit-smaller g c =
    loop_todo g.H.HitSource.asked g.H.HitSource.standing
    (c.poll_some.ensures.polled (ap is_some c.in-Some-poll_some.is)).budget c.loop-hit.self c.ready.new.self
    c.poll_some.new.self _ _ (lawful g)
    (ready_stays g.H.HitSource.asked g.H.HitSource.standing c.loop-hit.self c.ready.new.self _ c.in_default.is c.ready.ensures.after)
    (sym c.poll_some.ensures.due ∙ ap is_some c.in-Some-poll_some.is)
    (c.poll_some.ensures.polled (ap is_some c.in-Some-poll_some.is)).polls

pub loop-hit-preserved : goal.loop-hit-preserved
loop-hit-preserved g c =
    let stayed = ready_stays g.H.HitSource.asked g.H.HitSource.standing c.loop-hit.self c.ready.new.self _ c.in_default.is c.ready.ensures.after in
    let some = c.poll_some.ensures.polled (ap is_some c.in-Some-poll_some.is) in
    let polls = subst (λ x. PollsAll g.H.HitSource.asked g.H.HitSource.standing some.budget x.sources
    c.poll_some.new.self.sources c.loop-hit.meters c.poll_some.new.meters) stayed some.polls in
    let is = subst (λ x. IsGathering (seen g.H.HitSource.asked g.H.HitSource.standing x))
    stayed c.ready.ensures.holds in
    let left = waited_left g.H.HitSource.asked g.H.HitSource.standing c.args.self.now c.loop-hit.self c.args.meters.now
    c.loop-hit.meters c.loop-hit.invariant.0 in (
      waited_again g.H.HitSource.asked g.H.HitSource.standing some.budget c.args.self.now c.loop-hit.self
          c.poll_some.new.self _ _ _ c.loop-hit.invariant.0 polls
          (subst (λ x. c.poll_some.new.self ≡ gathered c.poll_some.new.self.sources x.limit x.given x.last)
          stayed c.poll_some.ensures.stays),
      begins_more g.H.HitSource.standing _ c.args.self.now.sources c.loop-hit.self.sources c.poll_some.new.self.sources
          c.loop-hit.invariant.0.ledgers.count c.loop-hit.invariant.1
          (subst (λ hits. BeginsUpTo g.H.HitSource.standing
          (distance_of (first_of hits)) c.loop-hit.self.sources c.poll_some.new.self.sources) left
          (round_begins g.H.HitSource.asked g.H.HitSource.standing some.budget c.loop-hit.self
          c.poll_some.new.self.sources _ _ (lawful g) is polls)),
      λ reached. absurd (not_due c.loop-hit.self.given c.loop-hit.self.limit _
          (omega (arith, reached, c.loop-hit.invariant.0.given, c.loop-hit.invariant.0.limit))
          (subst (λ x. some_due (seen g.H.HitSource.asked g.H.HitSource.standing x) ≡ true) stayed
          (sym c.poll_some.ensures.due ∙ ap is_some c.in-Some-poll_some.is))),
    )

pub returns-in-Some-clause-begins : goal.returns-in-Some-clause-begins
returns-in-Some-clause-begins g c =
    let gives = subst (λ r. GivesReady g.H.HitSource.asked g.H.HitSource.standing c.loop-hit.self c.ready.new.self r)
    c.in-Some.is c.ready.ensures.after in
    let next = c.in-Some.ensures.gives in
    let left = waited_left g.H.HitSource.asked g.H.HitSource.standing c.args.self.now c.loop-hit.self c.args.meters.now
    c.loop-hit.meters c.loop-hit.invariant.0 in
    begins_more g.H.HitSource.standing _ c.args.self.now.sources c.loop-hit.self.sources c.ready.new.self.sources
    c.loop-hit.invariant.0.ledgers.count
    (subst (λ next. BeginsUpTo g.H.HitSource.standing
    (distance_of next) c.args.self.now.sources c.loop-hit.self.sources) (ap first_of (sym left)
    ∙ next) c.loop-hit.invariant.1)
    (begins_given g.H.HitSource.asked g.H.HitSource.standing _ c.loop-hit.self c.ready.new.self c.in-Some.hit gives)

pub returns-in-Some-clause-within : goal.returns-in-Some-clause-within
returns-in-Some-clause-within g c = λ near was.
    let gives = subst (λ r. GivesReady g.H.HitSource.asked g.H.HitSource.standing c.loop-hit.self c.ready.new.self r)
    c.in-Some.is c.ready.ensures.after in
    let rises : IfSome c.loop-hit.self.last (λ last. last ≤ c.in-Some.hit.dist) =
    subst (λ r. IfSome r (λ hit. IfSome c.loop-hit.self.last (λ last. last ≤ hit.dist)))
    c.in-Some.is c.ready.ensures.rises in
    let gave = returns-in-Some-clause-gave g c in
    within_next g.H.HitSource.standing c.args.self.now.last c.ready.new.self.last c.args.self.now.sources
    c.ready.new.self.sources c.in-Some.hit gave.ledgers.count was (returns-in-Some-clause-begins g c)
    (subst (λ x. IfSome x (λ last. last ≤ c.in-Some.hit.dist)) c.loop-hit.invariant.0.last rises) gave.last

pub returns-in_default-poll_some-clause-within : goal.returns-in_default-poll_some-clause-within
returns-in_default-poll_some-clause-within g c = λ near was.
    let stayed = ready_stays g.H.HitSource.asked g.H.HitSource.standing c.loop-hit.self c.ready.new.self _ c.in_default.is c.ready.ensures.after in
    let is = subst (λ x. IsGathering (seen g.H.HitSource.asked g.H.HitSource.standing x))
    stayed c.ready.ensures.holds in
    let none : first_of (answer_left (seen g.H.HitSource.asked g.H.HitSource.standing c.loop-hit.self)) ≡ None =
    ap first_of (waited_left g.H.HitSource.asked g.H.HitSource.standing c.args.self.now c.loop-hit.self c.args.meters.now
    c.loop-hit.meters c.loop-hit.invariant.0)
    ∙ sym (returns-in_default-poll_some-clause-gives g c) in
    let rows = waited_rows g.H.HitSource.asked g.H.HitSource.standing c.args.self.now c.loop-hit.self c.args.meters.now
    c.loop-hit.meters c.loop-hit.invariant.0 in
    let end = ends_at_limit (seen g.H.HitSource.asked g.H.HitSource.standing c.loop-hit.self) is
    (all_lawful g.H.HitSource.asked g.H.HitSource.standing (lawful g) c.loop-hit.self.sources) (rows
    ∙ near) none in
    let first : c.loop-hit.self ≡ c.args.self.now =
    c.loop-hit.invariant.2 (omega (arith, end, c.loop-hit.invariant.0.given, c.loop-hit.invariant.0.limit)) in
    let all : c.poll_some.new.self ≡ c.args.self.now = c.poll_some.ensures.none (ap is_some c.in_default-poll_some.is)
    ∙ stayed ∙ first in
    subst (λ x. BegunWithin g.H.HitSource.standing x.last x.sources) (sym all) was
