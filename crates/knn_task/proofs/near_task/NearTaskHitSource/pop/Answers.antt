use Rattle.hit_source.specs.Windows.{with_given}
use Rattle.knn_task.specs.Walked.{search_of, ring_at}
use Rattle.knn_task.specs.NearLaw.{near_lawful}
use Rattle.knn_task.proofs.NearLemmas.{after_pop}
use Rattle.knn_task.proofs.NearWorkLemmas.{near_pops}
use Rattle.knn_task.proofs.near_task.NearTaskHitSource.pop.Goals as goal

pub returns-clause-pops : goal.returns-clause-pops
returns-clause-pops g c =
    let own = c.args.self.now in
    rw (c.pop.ensures.given, c.pop.ensures.head)
    (near_pops (search_of own.rings.plan) (ring_at own.rings.plan own.rings.walk) own.rings.walk.begun own.window
    own.mark own.reads own.kept own.rings.kept.ring)

pub returns-clause-lawful : goal.returns-clause-lawful
returns-clause-lawful g c =
    let own = c.args.self.now in
    rw c.pop.ensures.given
    (near_lawful (search_of own.rings.plan) (ring_at own.rings.plan own.rings.walk) own.rings.walk.begun (with_given own.window) own.mark own.reads
    (after_pop (search_of own.rings.plan) (ring_at own.rings.plan own.rings.walk) own.rings.walk.begun own.window
    own.mark own.reads own.kept).kept own.rings.kept.ring)
