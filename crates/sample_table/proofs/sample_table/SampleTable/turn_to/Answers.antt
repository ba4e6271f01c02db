use Rattle.std.proofs.Common.{◌≡◌, ◌-◌, ◌∙◌, ℕ, length, get_or, ap, subst, arith}
use Rattle.std.specs.Global.{Vec}
use Rattle.std.proofs.lemmas.List.{length-map, with_items_is}
use Rattle.exchange_model.specs.Pairs.{counts_beside, least_beside}
use Rattle.sample_table.specs.Kept.{sample_table_of}
use Rattle.sample_table.specs.Levels.{level_count}
use Rattle.sample_table.specs.Sums.{AreLeastSums, counts_in, kept_rows}
use Rattle.sample_table.proofs.TableLemmas.{beside_least}
use Rattle.sample_table.proofs.sample_table.SampleTable.turn_to.Goals as goal

pub returns-clause-turned : goal.returns-clause-turned
returns-clause-turned c = λ many units few.
    let own = c.self.inside in
    let table = (sample_table_of own.tau own.rows.items own.others.items).levels in
    let kept = c.least_sums.auto.sums in
    let long = c.as_mut_slice.ensures.len in
    let fits = c.self.invariant.beside.size in
    let same = ap length c.as_mut_slice.ensures.value in
    let is = with_items_is own.others c.least_sums.new.sums (kept ∙ long) in
    let number = length-map own.rows.items (λ (row : Vec ℕ). row.items) in
    let parts : c.len-parts.result ≡ length (kept_rows own.rows.items) = omega arith in
    let sums = subst (λ rows. AreLeastSums (counts_beside (counts_in (kept_rows rows)) c.args.pair) 0 (c.len-parts.result - 2)
    (length c.as_mut_slice.result.now) c.least_sums.new.sums) c.as_slice.ensures.value c.least_sums.ensures.least in
    ap (λ xs. get_or xs units 0) is
    ∙ beside_least c.least_cost_is_that_of_splits.ensures c.least_cost_is_the_least.ensures.agrees table c.args.pair c.len-parts.result
    (length c.as_mut_slice.result.now) c.least_sums.new.sums parts (omega (arith, many, parts)) (same ∙ fits) c.least_sums.ensures.row sums units few
    ∙ ap (λ n. least_beside (level_count table) c.args.pair n units) parts
