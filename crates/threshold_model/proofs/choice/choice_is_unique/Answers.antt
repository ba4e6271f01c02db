use Rattle.threshold_model.proofs.ChoiceLemmas.{choice_unique, least_unique, choice_least}
use Rattle.threshold_model.proofs.choice.choice_is_unique.Goals as goal

pub returns-clause-choice : goal.returns-clause-choice
returns-clause-choice c = choice_unique

pub returns-clause-least : goal.returns-clause-least
returns-clause-least c = least_unique

pub returns-clause-cost : goal.returns-clause-cost
returns-clause-cost c = choice_least
