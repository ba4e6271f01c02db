-- The lemmas on the beginning and on each step.
use Rattle.world_model.proofs.PinLemmas.{new_sound}
use Rattle.world_model.proofs.StepLemmas.{step_sound}
use Rattle.world_model.proofs.laws.each_event_keeps_the_rules.Goals as goal

pub returns-clause-begins : goal.returns-clause-begins
returns-clause-begins c = new_sound

pub returns-clause-kept : goal.returns-clause-kept
returns-clause-kept c = λ z s event answer t formed is step. step_sound z s is event answer t formed step
