-- A poll gives no hit.
use Rattle.std.proofs.Common.{◌∙◌, ap, sym, subst, arith, length, ◌≡◌, ◌<◌, true, set}
use Rattle.std.proofs.lemmas.List.{get_or_default}
use Rattle.hit_source.specs.Moves.{first_of}
use Rattle.scatter_gather.specs.Gathering.{seen, gathered, answer_left, source_of, sources_of}
use Rattle.scatter_gather.specs.Due.{least_floor, may_have_next}
use Rattle.scatter_gather.specs.Moves.{BeginsUpTo, distance_of}
use Rattle.scatter_gather.proofs.BeginLemmas.{one_begins}
use Rattle.scatter_gather.proofs.KeepLemmas.{one_polled}
use Rattle.scatter_gather.proofs.gather.Gather.poll_one.Goals as goal

pub invariant_of-self : goal.invariant_of-self
invariant_of-self g c =
    let same : length c.self.inside.sources.items ≡ length c.args.self.now.sources =
    ap (λ x. length x.sources) c.self.view_is in
    one_polled g.H.HitSource.asked g.H.HitSource.standing c.self.inside.sources.items c.args.shard
    c.index_mut.result.now c.poll.new.self _ _ _ (omega (arith, same, c.requires.shard))
    c.index_mut.ensures.value c.poll.ensures.asked c.poll.ensures.polls.given c.self.invariant

pub returns-clause-begins : goal.returns-clause-begins
returns-clause-begins g c =
    let laws = g.met.H.HitSource g.world.𝓛 g.world.𝓜 g.world.𝓡 ((λ s x. x), (λ x. x), (λ x. x), λ x. x) in
    let same : length c.self.inside.sources.items ≡ length c.args.self.now.sources =
    ap (λ x. length x.sources) c.self.view_is in
    let l : c.args.shard < length c.self.inside.sources.items = omega (arith, same, c.requires.shard) in
    let one : c.index.result.now ≡ c.index_mut.result.now = c.index.ensures
    ∙ get_or_default c.self.inside.sources.items c.args.shard c.index.result.now c.index_mut.result.now l
    ∙ sym c.index_mut.ensures.value in
    let least : c.least_floor-least.result ≡ least_floor
    (sources_of g.H.HitSource.asked g.H.HitSource.standing c.self.inside.sources.items) = c.least_floor-least.ensures
    ∙ ap (λ xs. least_floor (sources_of g.H.HitSource.asked g.H.HitSource.standing xs)) c.deref.ensures.value in
    let may : may_have_next
    (least_floor (sources_of g.H.HitSource.asked g.H.HitSource.standing c.self.inside.sources.items))
    (source_of g.H.HitSource.asked g.H.HitSource.standing c.index_mut.result.now) ≡ true =
    ap (λ x. may_have_next
    (least_floor (sources_of g.H.HitSource.asked g.H.HitSource.standing c.self.inside.sources.items))
    (source_of g.H.HitSource.asked g.H.HitSource.standing x)) (sym one)
    ∙ ap (λ m. may_have_next m (source_of g.H.HitSource.asked g.H.HitSource.standing c.index.result.now))
    (sym least) ∙ sym c.may_have_next.ensures ∙ c.if-not-may_have_next.false in
    subst (λ x. BeginsUpTo g.H.HitSource.standing
    (distance_of (first_of (answer_left (seen g.H.HitSource.asked g.H.HitSource.standing x)))) x.sources
    (set c.self.inside.sources.items c.args.shard c.poll.new.self)) c.self.view_is
    (one_begins g.H.HitSource.asked g.H.HitSource.standing
    (gathered c.self.inside.sources.items c.self.inside.limit c.self.inside.given c.self.inside.last)
    c.args.shard c.index_mut.result.now c.poll.new.self _ _ _ _ laws.lawful c.self.invariant
    c.index_mut.ensures.value l may c.poll.ensures.polls)
