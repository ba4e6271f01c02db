use Rattle.std.proofs.Common.{refl}
use Rattle.open_queries.proofs.QueryLemmas.{cost_of, looked_kept}
use Rattle.open_queries.proofs.asking.cost_query.Goals as goal

pub returns-clause-cost : goal.returns-clause-cost
returns-clause-cost g c =
    cost_of g.H.HitSource.asked g.H.HitSource.standing c.args.tag.now c.args.query.now c.cost-reads.result.0
    c.cost-reads.result.1 c.requires.kept c.cost-reads.ensures.reads c.cost-reads.ensures.bound
    c.cost-reads.ensures.within c.cost-reads.ensures.no_less

pub returns-clause-kept : goal.returns-clause-kept
returns-clause-kept g c =
    looked_kept g.H.HitSource.asked g.H.HitSource.standing c.args.query.now _ refl refl c.cost-reads.ensures.looks
    c.requires.kept
