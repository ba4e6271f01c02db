use Rattle.std.proofs.Common.{rules}
use Rattle.shard_query.specs.TaskLaw.{task_lawful}
use Rattle.shard_query.proofs.UnitLemmas.{task_pops}
use Rattle.shard_query.proofs.range_task.RangeTaskHitSource.pop.Goals as goal

pub returns-clause-pops : goal.returns-clause-pops
returns-clause-pops g c =
    rw (c.pop.ensures.given, c.pop.ensures.head)
    (task_pops c.args.self.now.plan c.args.self.now.walk c.args.self.now.window c.args.self.now.reads
    c.args.self.now.kept)

pub returns-clause-lawful : goal.returns-clause-lawful
returns-clause-lawful g c = task_lawful c.args.self.now.plan c.args.self.now.walk c.pop.new.self c.args.self.now.reads
    (search rules)
