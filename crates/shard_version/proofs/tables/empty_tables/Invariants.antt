use Rattle.shard_version.specs.KeptParts.{AreEmpty}
use Rattle.shard_version.proofs.tables.empty_tables.Given as goal

abbrev pub invariant-loop-part : goal.invariant-loop-part
invariant-loop-part g l = AreEmpty l.layout l.tables.items l.part
