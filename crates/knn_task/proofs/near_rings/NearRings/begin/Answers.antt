use Rattle.ring_walk.specs.NearPlanned.{near_rows, near_parts, near_query}
use Rattle.knn_task.proofs.WalkedLemmas.{query_is, walked_begun, begins_is}
use Rattle.knn_task.proofs.near_rings.NearRings.begin.Goals as goal

pub invariant_of-self : goal.invariant_of-self
invariant_of-self g c =
    let own = c.args.self.now in
    record {
      kept = walked_begun own.plan own.thresholds.room own.left own.walk own.kept (query_is g.row.W own.plan c.begin-self.ensures.plan)
          c.begin-self.new.self c.begin-self.result
          c.begin-self.ensures.begins c.requires.more;
    }

pub returns-clause-begins : goal.returns-clause-begins
returns-clause-begins g c =
    let own = c.args.self.now in
    begins_is own.plan own.walk c.begin-self.new.self c.begin-self.result
    (query_is g.row.W own.plan c.begin-self.ensures.plan) own.kept.place
    c.begin-self.ensures.begins c.requires.more
    (λ part less. c.counts_of_rows_are_lawful.ensures.rises (near_rows own.plan) (near_parts own.plan) (near_query own.plan) part)
