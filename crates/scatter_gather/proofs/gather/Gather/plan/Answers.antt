-- A plan changes neither what the source is asked nor where it stands.
use Rattle.std.proofs.Common.{rules, ◌≡◌, ◌∙◌, ◌<◌, ap, arith, length, sym, subst, map, set}
use Rattle.std.specs.Prelude.{IfSome, ◌≤◌}
use Rattle.scatter_gather.proofs.KeepLemmas.{last_within, planned_keeps, set_alike}
use Rattle.scatter_gather.proofs.gather.Gather.plan.Goals as goal

pub plan-requires : goal.plan-requires
plan-requires g c =
    let same : length c.self.inside.sources.items ≡ length c.args.self.now.sources =
    ap (λ x. length x.sources) c.self.view_is in
    subst (λ x. IfSome c.self.inside.last (λ radius. radius ≤ (g.H.HitSource.asked x).farthest))
    (sym c.index_mut.ensures.value)
    (last_within g.H.HitSource.asked g.H.HitSource.standing c.self.inside.sources.items _ _ c.self.inside.last
    c.self.invariant c.args.shard c.index_mut.result.now (omega (arith, same, c.requires)))

pub invariant_of-self : goal.invariant_of-self
invariant_of-self g c =
    let same : length c.self.inside.sources.items ≡ length c.args.self.now.sources =
    ap (λ x. length x.sources) c.self.view_is in
    let l : c.args.shard < length c.self.inside.sources.items = omega (arith, same, c.requires) in
    planned_keeps g.H.HitSource.asked g.H.HitSource.standing c.self.inside.sources.items
    (set c.self.inside.sources.items c.args.shard c.plan.new.self) _ _ c.self.inside.last
    (set_alike g.H.HitSource.asked c.self.inside.sources.items c.args.shard c.index_mut.result.now c.plan.new.self l
    c.index_mut.ensures.value c.plan.ensures.asked)
    (set_alike g.H.HitSource.standing c.self.inside.sources.items c.args.shard c.index_mut.result.now c.plan.new.self l
    c.index_mut.ensures.value c.plan.ensures.standing)
    c.self.invariant

pub returns-clause-looks : goal.returns-clause-looks
returns-clause-looks g c =
    let asks = g.H.HitSource.asked in
    let stands = g.H.HitSource.standing in
    let hs = c.self.inside.sources.items in
    let same : length hs ≡ length c.args.self.now.sources = ap (λ x. length x.sources) c.self.view_is in
    let l : c.args.shard < length hs = omega (arith, same, c.requires) in
    record {
      asked = set_alike asks hs c.args.shard c.index_mut.result.now c.plan.new.self l c.index_mut.ensures.value
          c.plan.ensures.asked ∙ ap (λ x. map asks x.sources) c.self.view_is;
      standing = set_alike stands hs c.args.shard c.index_mut.result.now c.plan.new.self l c.index_mut.ensures.value
          c.plan.ensures.standing ∙ ap (λ x. map stands x.sources) c.self.view_is;
      stays = search rules;
    }
