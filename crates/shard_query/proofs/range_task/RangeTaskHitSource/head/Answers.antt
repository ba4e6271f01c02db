use Rattle.shard_query.specs.TaskLaw.{task_lawful}
use Rattle.shard_query.proofs.range_task.RangeTaskHitSource.head.Goals as goal

pub returns-clause-lawful : goal.returns-clause-lawful
returns-clause-lawful g c =
    task_lawful c.args.self.now.plan c.args.self.now.walk c.args.self.now.window c.args.self.now.reads
    c.args.self.now.kept
