use Rattle.std.proofs.Common.{ap, sym, ◌∙◌, take, arith, get_or, subst}
use Rattle.std.proofs.lemmas.List.{get_or_default}
use Rattle.part_layout.specs.Laid.{part_at}
use Rattle.layout_search.specs.Improves.{IsSmallSample, plain_sample}
use Rattle.layout_search.specs.Inside.{plain_rows, with_levels}
use Rattle.layout_search.specs.Seen.{levels_in}
use Rattle.layout_search.proofs.CountingLemmas.{counted_more, levels_counted, own_table}
use Rattle.layout_search.proofs.counting.count_part.Goals as goal

pub loop-at-preserved : goal.loop-at-preserved
loop-at-preserved g c =
    let bits = c.args.layout.now.bits in
    let part = part_at c.args.layout.now c.args.part in
    let own = get_or c.loop-at.tables c.loop-at.at c.index-tables-at.result in
    let sample = get_or c.args.samples.now c.loop-at.at c.index-samples-at.result in
    let short = c.loop-at.invariant.size in
    let own_is = get_or_default c.loop-at.tables c.loop-at.at c.index-tables-at.result own (omega arith) in
    let sample_is = get_or_default c.args.samples.now c.loop-at.at c.index-samples-at.result sample (omega arith) in
    counted_more bits c.args.rows.now c.args.samples.now c.args.part part c.args.tables.now c.loop-at.tables c.loop-at.at c.count_part.new.self
    (omega arith)
    (λ other table.
    let same = own_table bits c.args.rows.now c.args.samples.now c.args.part part c.args.tables.now c.loop-at.tables c.loop-at.at own table (omega arith)
    own_is c.loop-at.invariant in
    let same_sample = sample_is ∙ get_or_default c.args.samples.now c.loop-at.at sample other (omega arith) in
    let near = ap (λ t. (levels_in t).tau) same ∙ c.requires.near.radii c.loop-at.at other table (omega arith) ∙ ap (λ s. s.tau) (sym same_sample) in
    let is_sample = subst (IsSmallSample bits) (sym sample_is) (c.requires.task.each c.loop-at.at sample (omega arith)) in
    levels_counted (plain_rows bits c.args.rows.now) (levels_in own) (levels_in c.count_part.new.self) c.args.part part c.row_values.new.values
    c.value-value.result (plain_sample bits sample)
    c.count_part.ensures.levels c.row_values.ensures (c.value-value.ensures.value (take bits sample.query) is_sample.query) near
    ∙ ap (λ t. with_levels (plain_rows bits c.args.rows.now) (levels_in t) c.args.part (plain_sample bits sample) part) same
    ∙ ap (λ s. with_levels (plain_rows bits c.args.rows.now) (levels_in (get_or c.args.tables.now c.loop-at.at table)) c.args.part (plain_sample bits s)
    part) same_sample)
    c.loop-at.invariant
