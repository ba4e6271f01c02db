use Rattle.knn_task.proofs.TaskLemmas.{lawful_task}
use Rattle.knn_task.proofs.near_task.NearTaskHitSource.head.Goals as goal

pub returns-clause-lawful : goal.returns-clause-lawful
returns-clause-lawful g c = lawful_task c.args.self.now
