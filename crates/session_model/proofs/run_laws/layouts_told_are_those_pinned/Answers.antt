-- The lemma on what is told up to a query.
use Rattle.session_model.proofs.ToldLemmas.{pinned_as_told}
use Rattle.session_model.proofs.run_laws.layouts_told_are_those_pinned.Goals as goal

pub returns : goal.returns
returns c = pinned_as_told
