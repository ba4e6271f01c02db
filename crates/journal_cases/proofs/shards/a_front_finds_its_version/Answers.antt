-- The shard keeps the rule of the empty journal.
use Rattle.commit_journal.specs.Fronts.{positions_of}
use Rattle.journal_cases.proofs.shards.a_front_finds_its_version.Goals as goal

pub add-first-requires-clause-rule : goal.add-first-requires-clause-rule
add-first-requires-clause-rule g c =
    c.empty_shard-shard.ensures.rule (positions_of c.expect-journal.result.live) c.expect-journal.result.history
