use Rattle.std.proofs.Common.{◌≡◌, map, take}
use Rattle.version_draft.specs.PartDrafts.{tables_of}
use Rattle.version_draft.proofs.parts.tables_of_each.Given as goal

abbrev pub invariant-loop-part : goal.invariant-loop-part
invariant-loop-part g l = l.tables.items ≡ take l.part-index (map tables_of l.parts)
