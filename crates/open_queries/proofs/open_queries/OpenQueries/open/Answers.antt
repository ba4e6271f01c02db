use Rattle.std.proofs.Common.{arith, subst, sym}
use Rattle.open_queries.specs.Kept.{AreKept}
use Rattle.open_queries.specs.Queries.{IsFree, opened_query}
use Rattle.open_queries.proofs.QueryLemmas.{opened_kept}
use Rattle.open_queries.proofs.TagLemmas.{all_more}
use Rattle.open_queries.proofs.open_queries.OpenQueries.open.Goals as goal

pub invariant_of-self : goal.invariant_of-self
invariant_of-self g c =
    let asks = g.H.HitSource.asked in
    let stands = g.H.HitSource.standing in (
      omega (arith, c.self.invariant.0, c.push.ensures.capacity),
      subst (AreKept asks stands) (sym c.in-Ok.ensures.items)
          (all_more asks stands c.self.inside.queries.items (opened_query c.args.tag c.args.gather) c.self.invariant.1
          (subst (λ queries. IsFree queries c.args.tag) (sym c.self.view_is) c.requires.free)
          (opened_kept asks stands c.args.tag c.args.gather c.requires.untouched)),
    )
