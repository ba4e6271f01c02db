use Rattle.std.proofs.Common.{arith, length}
use Rattle.versioned_shard.proofs.AlongLemmas.{follows_longer, follows_relaid, version_follows}
use Rattle.repartitioner.proofs.LawLemmas.{stands_in}
use Rattle.repartitioner.proofs.laws.builds_follow_the_history.Goals as goal

pub returns-clause-begun : goal.returns-clause-begun
returns-clause-begun c = λ history version layout same follows. follows_relaid history version layout same follows

pub returns-clause-longer : goal.returns-clause-longer
returns-clause-longer c = λ history more build within follows. follows_longer history more build.contents within follows

pub returns-clause-followed : goal.returns-clause-followed
returns-clause-followed c = λ front build. version_follows build.contents front.entries (length front.entries) (omega arith)

pub returns-clause-stands_in : goal.returns-clause-stands_in
returns-clause-stands_in c = λ live history shard build rule follows is. stands_in live history shard build rule follows is
