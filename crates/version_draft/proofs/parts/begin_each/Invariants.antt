use Rattle.version_draft.specs.KeptDrafts.{AreBegun}
use Rattle.version_draft.proofs.parts.begin_each.Given as goal

abbrev pub invariant-loop-part : goal.invariant-loop-part
invariant-loop-part g l = AreBegun l.layout l.rows l.parts.items l.part
