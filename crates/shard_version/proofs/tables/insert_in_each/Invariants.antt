use Rattle.std.proofs.Common.{take}
use Rattle.shard_version.specs.KeptParts.{AreChanged, Taken}
use Rattle.shard_version.proofs.tables.insert_in_each.Given as goal

abbrev pub invariant-loop-part : goal.invariant-loop-part
invariant-loop-part g l = AreChanged (Taken l.layout l.key l.code (take l.layout.bits l.code)) l.initial.tables.items l.tables.items l.part
