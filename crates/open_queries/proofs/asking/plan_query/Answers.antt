use Rattle.std.proofs.Common.{◌∙◌, arith, refl}
use Rattle.scatter_gather.proofs.TodoLemmas.{some_of}
use Rattle.open_queries.proofs.QueryLemmas.{plan_of, looked_kept}
use Rattle.open_queries.proofs.asking.plan_query.Goals as goal

pub returns-clause-plan : goal.returns-clause-plan
returns-clause-plan g c =
    let d = some_of c.args.query.now.gather.sources c.args.shard c.requires.within in
    record {
      this = _;
      is_plan = plan_of g.H.HitSource.asked g.H.HitSource.standing c.args.tag.now c.args.shard c.args.query.now
          c.plan-cost.result c.min-number.result c.thresholds-thresholds.result.now d c.requires.kept c.requires.within
          (c.plan-cost.ensures.cost d) (c.thresholds-thresholds.ensures d ∙ c.plan-cost.ensures.vector d)
          (omega (arith, c.min-number.ensures));
      is_line = c.write_plan.ensures;
    }

pub returns-clause-kept : goal.returns-clause-kept
returns-clause-kept g c =
    looked_kept g.H.HitSource.asked g.H.HitSource.standing c.args.query.now _ refl refl c.plan-cost.ensures.looks
    c.requires.kept
