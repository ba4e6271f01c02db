-- The lemmas on pins.
use Rattle.world_model.proofs.PinLemmas.{front_has_version, pin_not_refused, version_has_rows}
use Rattle.world_model.proofs.laws.no_query_is_too_old.Goals as goal

pub returns-clause-not_refused : goal.returns-clause-not_refused
returns-clause-not_refused c = pin_not_refused

pub returns-clause-there : goal.returns-clause-there
returns-clause-there c = front_has_version

pub returns-clause-own_rows : goal.returns-clause-own_rows
returns-clause-own_rows c = version_has_rows
