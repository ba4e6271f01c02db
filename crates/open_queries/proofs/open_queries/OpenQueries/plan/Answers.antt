use Rattle.std.proofs.Common.{refl, inl, inr, subst, rules, set}
use Rattle.query_protocol.specs.Replies as reply
use Rattle.query_protocol.specs.Requests.{bad}
use Rattle.open_queries.specs.Queries.{IsFirstAt, Changes}
use Rattle.open_queries.proofs.PlaceLemmas.{changes_at}
use Rattle.open_queries.proofs.TagLemmas.{all_set}
use Rattle.open_queries.proofs.open_queries.OpenQueries.plan.Goals as goal

pub returns-in-None : goal.returns-in-None
returns-in-None g c = record {
  this = reply.Bad (bad 8);
  tells = inl (search rules, search rules, refl);
  is_line = search rules;
}

pub returns-in-Some : goal.returns-in-Some
returns-in-Some g c =
    let before = c.index_mut.result.now in
    let at = subst (λ queries. IsFirstAt queries c.args.tag.now c.in-Some.place) c.deref.ensures.value c.in-Some.ensures in
    record {
      this = c.plan_query.ensures.plan.this;
      tells = inr (
        before,
        c.plan_query.new.query,
        subst (λ old. Changes old (set c.self.inside.queries.items c.in-Some.place c.plan_query.new.query) c.args.tag.now before
            c.plan_query.new.query) c.self.view_is
            (changes_at c.self.inside.queries.items c.args.tag.now c.in-Some.place before c.plan_query.new.query at (search rules)),
        c.plan_query.ensures.same,
        c.plan_query.ensures.plan.is_plan,
      );
      is_line = c.plan_query.ensures.plan.is_line;
    }

pub invariant_of-self : goal.invariant_of-self
invariant_of-self g c = (
  search rules,
  all_set g.H.HitSource.asked g.H.HitSource.standing c.self.inside.queries.items c.in-Some.place
      c.plan_query.new.query c.index_mut.result.now c.self.invariant.1 (search rules) c.plan_query.ensures.same.tag
      c.plan_query.ensures.kept,
)
