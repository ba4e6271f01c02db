use Rattle.std.proofs.Common.{◌+◌, ◌∙◌, ℕ, length, get_or, ap, subst, arith}
use Rattle.std.specs.Global.{Vec}
use Rattle.std.specs.Vec.{with_items}
use Rattle.std.proofs.lemmas.List.{get_or_read, length-map, with_items_is}
use Rattle.exchange_model.specs.Pairs.{counts_beside}
use Rattle.sample_table.specs.Kept.{sample_table_of}
use Rattle.sample_table.specs.Levels.{PairTable, least_of_levels}
use Rattle.sample_table.specs.Sums.{AreLeastSums, counts_in, kept_rows}
use Rattle.sample_table.proofs.TableLemmas.{rows_number, whole_least}
use Rattle.sample_table.proofs.sample_table.SampleTable.least.Goals as goal

pub returns-clause-least : goal.returns-clause-least
returns-clause-least c =
    let own = c.self.inside in
    let kept = c.least_sums.auto.sums in
    let long = c.as_mut_slice.ensures.len in
    let fits = c.self.invariant.sums_fit in
    let same = ap length c.as_mut_slice.ensures.value in
    let is = with_items_is own.sums c.least_sums.new.sums (kept ∙ long) in
    let number = length-map own.rows.items (λ (row : Vec ℕ). row.items) in
    let of_rows = rows_number own.tau own.rows.items own.others.items c.args.self.now c.self.view_is in
    let read = get_or_read (with_items own.sums c.least_sums.new.sums).items (own.tau + 1) c.index.result.now (omega (arith, ap length is))
    c.index.ensures 0 in
    let sums = subst (λ rows. AreLeastSums (counts_beside (counts_in (kept_rows rows)) c.len-parts.result) 0 c.len-parts.result
    (length c.as_mut_slice.result.now) c.least_sums.new.sums) c.as_slice.ensures.value c.least_sums.ensures.least in
    read ∙ ap (λ xs. get_or xs (own.tau + 1) 0) is
    ∙ whole_least c.least_cost_is_that_of_splits.ensures c.least_cost_is_the_least.ensures.agrees
    (sample_table_of own.tau own.rows.items own.others.items).levels c.len-parts.result (length c.as_mut_slice.result.now) c.least_sums.new.sums
    (omega arith) (omega arith) (same ∙ fits) sums
    ∙ ap (λ (t : PairTable). least_of_levels t.levels) c.self.view_is

pub returns-clause-few : goal.returns-clause-few
returns-clause-few c =
    let own = c.self.inside in
    let kept = c.least_sums.auto.sums in
    let long = c.as_mut_slice.ensures.len in
    let is = with_items_is own.sums c.least_sums.new.sums (kept ∙ long) in
    let fits = c.self.invariant.sums_fit in
    let same = ap length c.as_mut_slice.ensures.value in
    let read = get_or_read (with_items own.sums c.least_sums.new.sums).items (own.tau + 1) c.index.result.now (omega (arith, ap length is))
    c.index.ensures 0 in
    let at = ap (λ xs. get_or xs (own.tau + 1) 0) is in
    let small = c.least_sums.ensures.row.small (own.tau + 1) in
    omega arith
