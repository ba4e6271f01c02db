-- The shard stands in the layout whose text is told.
use Rattle.std.proofs.Common.{ap, ◌∙◌}
use Rattle.part_layout.specs.Text.{layout_text}
use Rattle.shard_version.specs.Contents.{Contents}
use Rattle.session_desk.proofs.CallLemmas.{now_tells}
use Rattle.session_desk.proofs.solo.SoloDeskDesk.layout_of.Goals as goal

pub returns-clause-layout : goal.returns-clause-layout
returns-clause-layout g c =
    now_tells g.row.W _ c.args.self.now c.self.invariant c.self.view_is c.args.shard c.requires.shard c.index.result.now c.index.ensures c.text_of.result
    (c.text_of.ensures ∙ ap (λ (version : Contents). layout_text version.layout.parts) c.current.ensures)
