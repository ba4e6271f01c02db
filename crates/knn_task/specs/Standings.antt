-- What a near query on a version asks, and where it stands, by its fields.
-- No public clause cites this module.
use Rattle.std.specs.Prelude.{ℕ}
use Rattle.hit_source.specs.Sources.{Asked, Standing}
use Rattle.knn_task.specs.Walked.{near_asked, near_standing}
use Rattle.knn_task.specs.declared.near_task.NearTask.{NearTask}

-- what the query asks
abbrev pub near_task_asked : {W : ℕ} → NearTask W → Asked
near_task_asked task = near_asked task.rings.plan task.window.room

-- where it stands
abbrev pub near_task_standing : {W : ℕ} → NearTask W → Standing
near_task_standing task =
    near_standing task.rings.plan task.rings.walk task.window task.mark task.reads
