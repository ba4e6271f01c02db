use Rattle.line_forms.proofs.JoinedLemmas.{words_of_joined}
use Rattle.line_forms.proofs.laws.words_of_joined.Goals as goal

pub returns : goal.returns
returns c = words_of_joined
