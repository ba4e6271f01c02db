-- A round of polls gives no hit, and begins no radius above the distance of the next.
use Rattle.std.proofs.Common.{◌≡◌, arith, length, drop, subst}
use Rattle.std.proofs.lemmas.List.{take_at}
use Rattle.hit_source.specs.Moves.{first_of}
use Rattle.scatter_gather.specs.Gathering.{seen, gathered, answer_left}
use Rattle.scatter_gather.specs.Moves.{BeginsUpTo, distance_of}
use Rattle.scatter_gather.proofs.BeginLemmas.{round_begins}
use Rattle.scatter_gather.proofs.NextLemmas.{round_keeps}
use Rattle.scatter_gather.proofs.gather.Gather.round.Goals as goal

pub invariant_of-self : goal.invariant_of-self
invariant_of-self g c =
    let size : length c.poll_all-goes_on.new.sources ≡ c.self.inside.sources.len =
    omega (arith, c.poll_all-goes_on.ensures.count, c.as_mut_slice.ensures.len) in
    let polls = rw c.as_mut_slice.ensures.value at c.poll_all-goes_on.ensures in
    rw (take_at c.poll_all-goes_on.new.sources
    (drop (length c.poll_all-goes_on.new.sources) c.self.inside.sources.items) c.self.inside.sources.len size)
    (round_keeps g.H.HitSource.asked g.H.HitSource.standing c.args.budget c.self.inside.sources.items
    c.poll_all-goes_on.new.sources _ _ c.self.inside.limit c.self.inside.given c.self.inside.last polls
    c.self.invariant)

pub returns-clause-begins : goal.returns-clause-begins
returns-clause-begins g c =
    let laws = g.met.H.HitSource g.world.𝓛 g.world.𝓜 g.world.𝓡 ((λ s x. x), (λ x. x), (λ x. x), λ x. x) in
    let size : length c.poll_all-goes_on.new.sources ≡ c.self.inside.sources.len =
    omega (arith, c.poll_all-goes_on.ensures.count, c.as_mut_slice.ensures.len) in
    let polls = rw c.as_mut_slice.ensures.value at c.poll_all-goes_on.ensures in
    rw (take_at c.poll_all-goes_on.new.sources
    (drop (length c.poll_all-goes_on.new.sources) c.self.inside.sources.items) c.self.inside.sources.len size)
    (subst (λ x. BeginsUpTo g.H.HitSource.standing
    (distance_of (first_of (answer_left (seen g.H.HitSource.asked g.H.HitSource.standing x))))
    x.sources c.poll_all-goes_on.new.sources) c.self.view_is
    (round_begins g.H.HitSource.asked g.H.HitSource.standing c.args.budget
    (gathered c.self.inside.sources.items c.self.inside.limit c.self.inside.given c.self.inside.last)
    c.poll_all-goes_on.new.sources _ _ laws.lawful c.self.invariant polls))
