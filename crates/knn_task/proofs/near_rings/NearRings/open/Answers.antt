use Rattle.std.proofs.Common.{arith}
use Rattle.knn_task.proofs.WalkedLemmas.{query_is, walked_starts}
use Rattle.knn_task.proofs.near_rings.NearRings.open.Goals as goal

pub invariant_of-result : goal.invariant_of-result
invariant_of-result g c =
    let plan = c.in_ok-plan.plan in
    record {
      kept = walked_starts plan c.in_ok-walk.walk c.in_ok-thresholds.thresholds.room (query_is g.row.W plan c.parts.ensures.plan)
          c.in_ok-walk.ensures.starts (omega (arith, c.in_ok-thresholds.ensures.room, c.parts.ensures.parts));
    }

pub returns-clause-query : goal.returns-clause-query
returns-clause-query g c = query_is g.row.W c.in_ok-plan.plan c.parts.ensures.plan
