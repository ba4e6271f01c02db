-- What a range query on a version asks, and where it stands, by its fields.
-- No public clause cites this module.
use Rattle.std.specs.Prelude.{ℕ}
use Rattle.hit_source.specs.Sources.{Asked, Standing}
use Rattle.shard_query.specs.Tasks.{asked_of, standing_of}
use Rattle.shard_query.specs.declared.range_task.RangeTask.{RangeTask}

-- what the query asks
abbrev pub task_asked : {W : ℕ} → RangeTask W → Asked
task_asked task = asked_of task.plan task.window.room

-- where it stands
abbrev pub task_standing : {W : ℕ} → RangeTask W → Standing
task_standing task = standing_of task.plan task.walk task.window task.reads
