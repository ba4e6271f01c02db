-- A poll is units of work, which stop before the budget only where none can be done; and the source is lawful.
use Rattle.std.proofs.Common.{◌+◌, ◌∙◌, None, refl, arith, inl, inr}
use Rattle.hit_source.specs.ListedLaw.{listed_lawful}
use Rattle.hit_source.proofs.WorkLemmas.{works_again, polls_by_range}
use Rattle.hit_source.proofs.ListedLemmas.{asked_alike}
use Rattle.hit_source.proofs.listed_hits.ListedHitsHitSource.poll.Goals as goal

pub returns-then-not-work-clause-polls : goal.returns-then-not-work-clause-polls
returns-then-not-work-clause-polls g c =
    polls_by_range c.args.budget (c.loop-done._done + 0) _ _ _ _ _ _ _ c.requires.budget c.requires.none_waits
    (asked_alike _ _ _ _ (c.if-not-work.ensures.found ∙ c.loop-done.invariant.0) (c.if-not-work.ensures.room
    ∙ c.loop-done.invariant.1)) refl
    (works_again None c.loop-done._done 0 _ _ _ _ _ _ c.loop-done.invariant.2 c.if-not-work.ensures.works)
    (omega (arith, c.loop-done-test.true)) (inr (c.if-not-work.ensures.stops refl)) c.judged.ensures

pub returns-then-not-work-clause-lawful : goal.returns-then-not-work-clause-lawful
returns-then-not-work-clause-lawful g c =
    listed_lawful c.work.new.self.window c.work.new.self.reads c.work.new.self.listed

pub returns-clause-polls : goal.returns-clause-polls
returns-clause-polls g c =
    polls_by_range c.args.budget c.loop-done._done _ _ _ _ _ _ _ c.requires.budget c.requires.none_waits
    (asked_alike _ _ _ _ c.loop-done.invariant.0 c.loop-done.invariant.1)
    refl c.loop-done.invariant.2 c.loop-done.auto._done-end
    (inl (omega (arith, c.loop-done-test.false, c.loop-done.auto._done-end))) c.judged-2.ensures

pub returns-clause-lawful : goal.returns-clause-lawful
returns-clause-lawful g c = listed_lawful c.loop-done.self.window c.loop-done.self.reads c.loop-done.self.listed
