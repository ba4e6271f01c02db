use Rattle.version_draft.specs.KeptDrafts.{ArePlaced}
use Rattle.version_draft.proofs.parts.place_in_each.Given as goal

abbrev pub invariant-loop-part : goal.invariant-loop-part
invariant-loop-part g l = ArePlaced l.layout l.rows l.parts.items l.next l.part
