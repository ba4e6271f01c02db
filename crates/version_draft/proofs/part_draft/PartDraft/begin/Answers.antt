use Rattle.std.proofs.Common.{arith}
use Rattle.part_layout.specs.Laid.{part_at}
use Rattle.version_draft.proofs.PartDraftLemmas.{counts_more, counts_total, row_value}
use Rattle.version_draft.proofs.part_draft.PartDraft.begin.Goals as goal

pub add-requires-clause-room : goal.add-requires-clause-room
add-requires-clause-room g c =
    let number = counts_total c.counts_are_those_of_a_list.ensures.total g.row.W c.args.layout.now.bits c.args.rows.now c.loop-row.row
    (part_at c.args.layout.now c.args.part) c.loop-row.counts (omega arith) c.requires.codes c.loop-row.invariant in
    omega arith

pub loop-row-preserved : goal.loop-row-preserved
loop-row-preserved g c =
    let value = row_value g.row.W c.args.layout.now c.args.rows.now c.loop-row.row c.args.part c.value.result c.index-rows-row.result
    (omega arith) c.requires.codes
    c.value.ensures.value in
    counts_more c.changes_follow_a_list.ensures.added c.args.layout.now.bits c.args.rows.now c.loop-row.row c.value.result
    (part_at c.args.layout.now c.args.part)
    c.index-rows-row.result c.loop-row.counts c.add.new.self (omega arith) c.value.ensures.bound value c.loop-row.invariant c.in_ok-add.ensures.added
