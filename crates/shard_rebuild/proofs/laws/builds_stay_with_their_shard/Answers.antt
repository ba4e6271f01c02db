use Rattle.shard_rebuild.proofs.BuildLemmas.{build_follows, build_lasts, commits_more, learns_more, more_both}
use Rattle.shard_rebuild.proofs.laws.builds_stay_with_their_shard.Goals as goal

pub returns-clause-more : goal.returns-clause-more
returns-clause-more c = λ old new shard build more is. build_lasts old new more shard build is

pub returns-clause-placed : goal.returns-clause-placed
returns-clause-placed c = λ desk shard number build is. is

pub returns-clause-follows : goal.returns-clause-follows
returns-clause-follows c = λ desk shard build is. build_follows desk shard build is

pub returns-clause-learns : goal.returns-clause-learns
returns-clause-learns c = λ old new learns config. learns_more old new learns config

pub returns-clause-commits : goal.returns-clause-commits
returns-clause-commits c = λ old new operation decided commits. commits_more old new operation decided commits

pub returns-clause-comes : goal.returns-clause-comes
returns-clause-comes c = λ old new comes. learns_more old new comes.learns comes.config

pub returns-clause-both : goal.returns-clause-both
returns-clause-both c = λ old mid new first second. more_both old mid new first second
