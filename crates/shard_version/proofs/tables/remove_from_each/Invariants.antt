use Rattle.std.proofs.Common.{take}
use Rattle.shard_version.specs.KeptParts.{AreChanged, Lost}
use Rattle.shard_version.proofs.tables.remove_from_each.Given as goal

abbrev pub invariant-loop-part : goal.invariant-loop-part
invariant-loop-part g l = AreChanged (Lost l.layout l.key (take l.layout.bits l.code)) l.initial.tables.items l.tables.items l.part
