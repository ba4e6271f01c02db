use Rattle.open_queries.specs.Queries.{IsFirstAt, Changes}
use Rattle.std.proofs.Common.{inr, rules, subst, set}
use Rattle.open_queries.proofs.PlaceLemmas.{changes_at}
use Rattle.open_queries.proofs.TagLemmas.{all_set}
use Rattle.open_queries.proofs.open_queries.OpenQueries.cost.Goals as goal

pub returns-in-Some : goal.returns-in-Some
returns-in-Some g c =
    let before = c.index_mut.result.now in
    let at = subst (λ queries. IsFirstAt queries c.args.tag.now c.in-Some.place) c.deref.ensures.value c.in-Some.ensures in
    inr (
      before,
      c.cost_query.new.query,
      subst (λ old. Changes old (set c.self.inside.queries.items c.in-Some.place c.cost_query.new.query) c.args.tag.now before
          c.cost_query.new.query) c.self.view_is
          (changes_at c.self.inside.queries.items c.args.tag.now c.in-Some.place before c.cost_query.new.query at (search rules)),
      c.cost_query.ensures.same,
      c.cost_query.ensures.cost,
    )

pub invariant_of-self : goal.invariant_of-self
invariant_of-self g c = (
  search rules,
  all_set g.H.HitSource.asked g.H.HitSource.standing c.self.inside.queries.items c.in-Some.place
      c.cost_query.new.query c.index_mut.result.now c.self.invariant.1 (search rules) c.cost_query.ensures.same.tag
      c.cost_query.ensures.kept,
)
