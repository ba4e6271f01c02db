-- The lemmas on histories and fronts.
use Rattle.versioned_shard.proofs.RuleLemmas.{rule_fronts, rule_longer}
use Rattle.versioned_shard.proofs.laws.rules_follow_fronts.Goals as goal

pub returns : goal.returns
returns c = record { longer = rule_longer; live = rule_fronts }
