-- A shard of a version without rows keeps the rule wherever fronts stand.
use Rattle.std.proofs.Common.{subst, sym}
use Rattle.versioned_shard.specs.Rule.{KeepsRule}
use Rattle.journal_cases.proofs.shards.empty_shard.Goals as goal

pub returns-clause-rule : goal.returns-clause-rule
returns-clause-rule g c live history = subst (KeepsRule live history) (sym c.in-Ok.ensures) (c.no_rows-version.ensures.rule live history)
