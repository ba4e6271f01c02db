use Rattle.std.proofs.Common.{◌≡◌, length, ap, sym, ◌∙◌, take, arith, get_or, set, subst}
use Rattle.std.proofs.lemmas.List.{get_or_default, set-get_or}
use Rattle.std.proofs.lemmas.List.Sums.{sum_by_more}
use Rattle.hamming_model.specs.Codes.{StandsFor}
use Rattle.layout_search.specs.Improves.{IsSmallSample}
use Rattle.layout_search.specs.declared.sample.Sample.{Sample}
use Rattle.layout_search.proofs.TrialLemmas.{sample_cost, tried_cost}
use Rattle.layout_search.proofs.trial.trial_cost.Goals as goal

pub loop-at-preserved : goal.loop-at-preserved
loop-at-preserved g c =
    let layout = c.args.layout.now in
    let at = c.loop-at.at in
    let inv = c.loop-at.invariant in
    let number = c.requires.counted.number in
    let tables_number = ap (λ ts. length ts) inv.0 in
    let own = get_or c.loop-at.tables at c.index-tables-at.result in
    let sample = get_or c.args.samples.now at c.index-samples-at.result in
    let again = get_or c.args.samples.now at c.index-samples-at-in-loop-at.result in
    let table_is = get_or_default c.loop-at.tables at c.index-tables-at.result own (omega arith) ∙ ap (λ ts. get_or ts at own) inv.0 in
    let sample_is = get_or_default c.args.samples.now at c.index-samples-at.result sample (omega arith) in
    let again_is : again ≡ sample = get_or_default c.args.samples.now at c.index-samples-at-in-loop-at.result sample (omega arith) ∙ sym sample_is in
    let small = subst (λ (s : Sample g.row.W). IsSmallSample layout.bits s) (sym sample_is) (c.requires.task.each at sample (omega arith)) in
    let next_query = subst (λ (s : Sample g.row.W). StandsFor g.row.W layout.bits s.query (take layout.bits sample.query)) (sym again_is) small.query in
    let least = tried_cost layout c.args.rows.now c.args.samples.now c.args.part c.args.tables.now c.requires.laid c.requires.task c.requires.counted
    c.least_cost_is_the_least.ensures.agrees at own sample c.row_values.new.values c.row_values-2.new.values c.value-value.result
    c.value-next_value.result c.least_with-least.result (omega arith) table_is sample_is c.row_values.ensures c.row_values-2.ensures
    (c.value-value.ensures.value (take layout.bits sample.query) small.query)
    (c.value-next_value.ensures.value (take layout.bits sample.query) next_query) c.least_with-least.ensures.least in
    let more = sum_by_more (sample_cost layout c.args.rows.now) c.args.samples.now at c.index-samples-at.result (omega arith) in
    let few = c.least_with-least.ensures.few in
    let wide = c.from-total.ensures in (
      ap (set c.loop-at.tables at) c.least_with-least.ensures.same ∙ set-get_or c.loop-at.tables at c.index-tables-at.result ∙ inv.0,
      omega (arith, more, least, wide, inv.1),
      omega (arith, few, wide, inv.2),
    )
