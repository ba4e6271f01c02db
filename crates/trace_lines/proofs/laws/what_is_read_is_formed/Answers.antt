use Rattle.trace_lines.proofs.FitLemmas.{fit_is_formed}
use Rattle.trace_lines.proofs.laws.what_is_read_is_formed.Goals as goal

pub returns : goal.returns
returns c = fit_is_formed
