use Rattle.std.proofs.Common.{◌∙◌}
use Rattle.load_sums.proofs.CostLemmas.{number_read}
use Rattle.load_sums.proofs.sums.number_in.Goals as goal

pub returns : goal.returns
returns c = λ number small is. c.number_of.ensures.value ∙ number_read number c.args.word.now small is
