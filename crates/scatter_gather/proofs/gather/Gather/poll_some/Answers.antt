-- A round of polls gives no hit.
use Rattle.std.proofs.Common.{◌≡◌, arith, length, drop}
use Rattle.std.proofs.lemmas.List.{take_at}
use Rattle.scatter_gather.proofs.NextLemmas.{round_keeps}
use Rattle.scatter_gather.proofs.gather.Gather.poll_some.Goals as goal

pub invariant_of-self : goal.invariant_of-self
invariant_of-self g c =
    let size : length c.poll_by.new.sources ≡ c.self.inside.sources.len =
    omega (arith, c.poll_by.ensures.polls.count, c.as_mut_slice.ensures.len) in
    let polls = rw c.as_mut_slice.ensures.value at c.poll_by.ensures.polls in
    rw (take_at c.poll_by.new.sources (drop (length c.poll_by.new.sources) c.self.inside.sources.items)
    c.self.inside.sources.len size)
    (round_keeps g.H.HitSource.asked g.H.HitSource.standing c.poll_by.ensures.budget c.self.inside.sources.items
    c.poll_by.new.sources _ _ c.self.inside.limit c.self.inside.given c.self.inside.last polls c.self.invariant)

pub returns-clause-holds : goal.returns-clause-holds
returns-clause-holds g c =
    let size : length c.poll_by.new.sources ≡ c.self.inside.sources.len =
    omega (arith, c.poll_by.ensures.polls.count, c.as_mut_slice.ensures.len) in
    let polls = rw c.as_mut_slice.ensures.value at c.poll_by.ensures.polls in
    rw (take_at c.poll_by.new.sources (drop (length c.poll_by.new.sources) c.self.inside.sources.items)
    c.self.inside.sources.len size)
    (round_keeps g.H.HitSource.asked g.H.HitSource.standing c.poll_by.ensures.budget c.self.inside.sources.items
    c.poll_by.new.sources _ _ c.self.inside.limit c.self.inside.given c.self.inside.last polls c.self.invariant)
