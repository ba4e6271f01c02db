-- The best head is the next hit, where it goes first.
use Rattle.std.proofs.Common.{◌<◌, subst, arith, ◌≡◌, refl, Some, None}
use Rattle.std.specs.Prelude.{IfSome, ◌≤◌, ◌↔◌}
use Rattle.hamming_model.specs.declared.hit.Hit.{Hit}
use Rattle.scatter_gather.specs.Gathering.{seen, gathered, next_hit}
use Rattle.scatter_gather.specs.Heads.{MayGo}
use Rattle.scatter_gather.proofs.GoLemmas.{may_some, may_none}
use Rattle.scatter_gather.proofs.ReadyLemmas.{best_given, given_one, none_given}
use Rattle.scatter_gather.proofs.BeginLemmas.{last_at_most}
use Rattle.hit_source.specs.Sources.{IsLawful}
use Rattle.scatter_gather.proofs.gather.Gather.ready.Given.{Over}
use Rattle.scatter_gather.proofs.gather.Gather.ready.Goals as goal

-- the sources keep their laws
lawful : (g : Over) (source : g.row.H.Denot) → IsLawful (g.H.HitSource.asked source) (g.H.HitSource.standing source)
lawful g = (g.met.H.HitSource g.world.𝓛 g.world.𝓜 g.world.𝓡 ((λ s x. x), (λ x. x), (λ x. x), λ x. x)).lawful

pub returns-in_default-clause-may_go : goal.returns-in_default-clause-may_go
returns-in_default-clause-may_go g c =
    let asks = g.H.HitSource.asked in
    let stands = g.H.HitSource.standing in
    subst (λ x. (hit : Hit) → (None ≡ Some hit) ↔ MayGo (seen asks stands x) hit) c.self.view_is
    (may_none (seen asks stands (gathered c.self.inside.sources.items c.self.inside.limit c.self.inside.given c.self.inside.last))
    (rw c.deref.ensures.value at c.in_default.ensures))

pub returns-in_default-clause-none_left : goal.returns-in_default-clause-none_left
returns-in_default-clause-none_left g c = λ none idle.
    none_given g.H.HitSource.asked g.H.HitSource.standing c.self.inside.sources.items _ _ _ c.args.self.now (lawful g)
    c.self.invariant c.if-self.false (rw c.deref.ensures.value at c.in_default.ensures) c.self.view_is idle

pub invariant_of-self : goal.invariant_of-self
invariant_of-self g c =
    (best_given g.H.HitSource.asked g.H.HitSource.standing c.self.inside.sources.items _ _ c.self.inside.last c.in-Some.best.0
    c.in-Some.best.1 c.index_mut.result.now c.pop-head.new.self c.pop-head.result
    (lawful g) c.self.invariant c.if-self.false (rw c.deref.ensures.value at c.in-Some.ensures) c.index_mut.ensures.value c.pop-head.ensures.asked
    c.pop-head.ensures.pops).0

pub returns-clause-may_go : goal.returns-clause-may_go
returns-clause-may_go g c =
    let asks = g.H.HitSource.asked in
    let stands = g.H.HitSource.standing in
    let below : c.self.inside.given < c.self.inside.limit = omega (arith, c.self.invariant.within, c.if-self.false) in
    subst (λ x. (hit : Hit) → (Some c.in-Some.best.1 ≡ Some hit) ↔ MayGo (seen asks stands x) hit) c.self.view_is
    (may_some (seen asks stands (gathered c.self.inside.sources.items c.self.inside.limit c.self.inside.given c.self.inside.last))
    c.in-Some.best.0 c.in-Some.best.1 below (rw c.deref.ensures.value at c.in-Some.ensures))

pub returns-clause-gives : goal.returns-clause-gives
returns-clause-gives g c =
    subst (λ x. next_hit (seen g.H.HitSource.asked g.H.HitSource.standing x) ≡ Some c.in-Some.best.1) c.self.view_is
    (best_given g.H.HitSource.asked g.H.HitSource.standing c.self.inside.sources.items _ _ c.self.inside.last c.in-Some.best.0
    c.in-Some.best.1 c.index_mut.result.now c.pop-head.new.self c.pop-head.result
    (lawful g) c.self.invariant c.if-self.false (rw c.deref.ensures.value at c.in-Some.ensures) c.index_mut.ensures.value c.pop-head.ensures.asked
    c.pop-head.ensures.pops).1

pub returns-clause-after : goal.returns-clause-after
returns-clause-after g c =
    let all = best_given g.H.HitSource.asked g.H.HitSource.standing c.self.inside.sources.items _ _ c.self.inside.last c.in-Some.best.0
    c.in-Some.best.1 c.index_mut.result.now c.pop-head.new.self c.pop-head.result
    (lawful g) c.self.invariant c.if-self.false (rw c.deref.ensures.value at c.in-Some.ensures) c.index_mut.ensures.value c.pop-head.ensures.asked
    c.pop-head.ensures.pops in (
      c.in-Some.best.0,
      given_one g.H.HitSource.asked g.H.HitSource.standing c.self.inside.sources.items _ _ c.self.inside.last _ _
          c.index_mut.result.now c.pop-head.new.self c.pop-head.result
          c.args.self.now _ all.2 c.index_mut.ensures.value c.pop-head.ensures.asked c.pop-head.ensures.pops all.3
          c.self.view_is refl,
    )

pub returns-clause-holds : goal.returns-clause-holds
returns-clause-holds g c =
    (best_given g.H.HitSource.asked g.H.HitSource.standing c.self.inside.sources.items _ _ c.self.inside.last c.in-Some.best.0
    c.in-Some.best.1 c.index_mut.result.now c.pop-head.new.self c.pop-head.result
    (lawful g) c.self.invariant c.if-self.false (rw c.deref.ensures.value at c.in-Some.ensures) c.index_mut.ensures.value c.pop-head.ensures.asked
    c.pop-head.ensures.pops).0

pub returns-clause-rises : goal.returns-clause-rises
returns-clause-rises g c =
    let all = best_given g.H.HitSource.asked g.H.HitSource.standing c.self.inside.sources.items _ _ c.self.inside.last c.in-Some.best.0
    c.in-Some.best.1 c.index_mut.result.now c.pop-head.new.self c.pop-head.result
    (lawful g) c.self.invariant c.if-self.false (rw c.deref.ensures.value at c.in-Some.ensures) c.index_mut.ensures.value c.pop-head.ensures.asked
    c.pop-head.ensures.pops in
    subst (λ x. IfSome x.last (λ last. last ≤ c.in-Some.best.1.dist)) c.self.view_is
    (last_at_most (seen g.H.HitSource.asked g.H.HitSource.standing
    (gathered c.self.inside.sources.items c.self.inside.limit c.self.inside.given c.self.inside.last)) c.in-Some.best.1 c.self.invariant all.1)
