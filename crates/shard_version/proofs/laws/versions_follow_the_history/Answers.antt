-- The laws of versions along a history.
use Rattle.shard_version.proofs.HistoryLemmas.{few_rows, fits_shard, prefix_reached, prefix_step, rows_step}
use Rattle.shard_version.proofs.laws.versions_follow_the_history.Goals as goal

pub returns-clause-step : goal.returns-clause-step
returns-clause-step c = rows_step

pub returns-clause-next : goal.returns-clause-next
returns-clause-next c = prefix_step

pub returns-clause-few : goal.returns-clause-few
returns-clause-few c = few_rows

pub returns-clause-prefix : goal.returns-clause-prefix
returns-clause-prefix c = prefix_reached

pub returns-clause-fits : goal.returns-clause-fits
returns-clause-fits c = fits_shard
