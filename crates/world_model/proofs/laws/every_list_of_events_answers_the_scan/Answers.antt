-- The lemmas on runs.
use Rattle.world_model.proofs.RunLemmas.{every_run, ended_is_whole}
use Rattle.world_model.proofs.laws.every_list_of_events_answers_the_scan.Goals as goal

pub returns-clause-all : goal.returns-clause-all
returns-clause-all c = every_run

pub returns-clause-ended : goal.returns-clause-ended
returns-clause-ended c = ended_is_whole
