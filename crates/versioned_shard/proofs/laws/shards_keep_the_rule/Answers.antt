-- The lemmas on the rule of a shard.
use Rattle.versioned_shard.proofs.RuleLemmas.{advances, follows_front, given_is, has_there, rule_begins, rule_swapped}
use Rattle.versioned_shard.proofs.laws.shards_keep_the_rule.Goals as goal

pub returns : goal.returns
returns c = record {
  begins = rule_begins;
  follows = follows_front;
  advanced = λ live history shard front rule known is. advances live history shard front rule known is.below;
  has = has_there;
  given = given_is;
  swapped = rule_swapped;
}
