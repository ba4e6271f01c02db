-- The lemma on runs, whatever the side condition.
use Rattle.session_model.specs.Run.{IsAlone, IsAmongOthers}
use Rattle.session_model.proofs.LaterLemmas.{run_later}
use Rattle.session_model.proofs.run_laws.queries_only_read_on.Goals as goal

pub returns-clause-alone : goal.returns-clause-alone
returns-clause-alone c = λ config. run_later (IsAlone config) config

pub returns-clause-among_others : goal.returns-clause-among_others
returns-clause-among_others c = run_later IsAmongOthers
