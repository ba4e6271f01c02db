use Rattle.std.proofs.Common.{◌≡◌, ◌+◌, ◌-◌, ◌∙◌, [], ◌∷◌, length, ap, subst, arith}
use Rattle.exchange_model.specs.Least.{IsLeastSum}
use Rattle.sample_table.specs.Sums.{counts_in}
use Rattle.sample_table.proofs.TableLemmas.{row_counts, row_read, rows_number}
use Rattle.sample_table.proofs.TrialLemmas.{tried_by_three, tried_by_two}
use Rattle.sample_table.proofs.sample_table.SampleTable.least_with.Goals as goal

pub least_joint-requires-clause-row : goal.least_joint-requires-clause-row
least_joint-requires-clause-row c =
    let own = c.self.inside in
    row_counts own.tau (length c.as_slice-then-len-eq2.result.now) c.as_slice.result.now c.args.values.now c.args.value
    (row_read own.tau own.first.items c.as_slice.result.now c.args.values.now c.args.value c.write_levels.new.row.items c.as_slice.ensures.value
    c.write_levels.ensures.levels c.self.invariant.first_fits)
    (ap length c.as_slice-then-len-eq2.ensures.value ∙ c.write_levels-2.ensures.long ∙ c.self.invariant.next_fits) c.requires.few

pub least_joint-requires-clause-sums : goal.least_joint-requires-clause-sums
least_joint-requires-clause-sums c =
    let own = c.self.inside in
    row_counts own.tau (length c.as_slice-then-len-eq2.result.now) c.as_slice-then-len-eq2.result.now c.args.next_values.now c.args.next_value
    (row_read own.tau own.next.items c.as_slice-then-len-eq2.result.now c.args.next_values.now c.args.next_value c.write_levels-2.new.row.items
    c.as_slice-then-len-eq2.ensures.value c.write_levels-2.ensures.levels c.self.invariant.next_fits)
    (ap length c.as_slice-then-len-eq2.ensures.value ∙ c.write_levels-2.ensures.long ∙ c.self.invariant.next_fits) c.requires.few_next

pub least_joint-requires-clause-within : goal.least_joint-requires-clause-within
least_joint-requires-clause-within c =
    let long = ap length c.as_slice-then-len-eq2.ensures.value ∙ c.write_levels-2.ensures.long ∙ c.self.invariant.next_fits in
    omega arith

pub returns-then-len-eq2-clause-least : goal.returns-then-len-eq2-clause-least
returns-then-len-eq2-clause-least c =
    let own = c.self.inside in
    let first = row_read own.tau own.first.items c.as_slice.result.now c.args.values.now c.args.value c.write_levels.new.row.items c.as_slice.ensures.value
    c.write_levels.ensures.levels c.self.invariant.first_fits in
    let next = row_read own.tau own.next.items c.as_slice-then-len-eq2.result.now c.args.next_values.now c.args.next_value c.write_levels-2.new.row.items
    c.as_slice-then-len-eq2.ensures.value c.write_levels-2.ensures.levels c.self.invariant.next_fits in
    let of_rows = rows_number own.tau own.rows.items own.others.items c.args.self.now c.self.view_is in
    let two = c.if-len-eq2.true in
    tried_by_two own.tau own.rows.items own.others.items c.args.self.now c.args.pair c.args.values.now c.args.value c.args.next_values.now c.args.next_value
    c.self.view_is c.least_cost_is_that_of_splits.ensures c.least_cost_is_the_least.ensures.agrees c.least_cost_is_that_of_three.ensures c.requires.inside
    c.self.invariant.counted c.requires.few c.requires.few_next c.as_slice.result.now c.as_slice-then-len-eq2.result.now c.least_joint.result first next
    (omega arith) c.least_joint.ensures.least

pub least_of_three-requires-clause-first : goal.least_of_three-requires-clause-first
least_of_three-requires-clause-first c =
    row_counts c.self.inside.tau (length c.as_mut_slice.result.now) c.as_slice-2.result.now c.args.values.now c.args.value
    (row_read c.self.inside.tau c.self.inside.first.items c.as_slice-2.result.now c.args.values.now c.args.value c.write_levels.new.row.items
    c.as_slice-2.ensures.value c.write_levels.ensures.levels c.self.invariant.first_fits)
    (ap length c.as_mut_slice.ensures.value ∙ c.self.invariant.sums_fit) c.requires.few

pub least_of_three-requires-clause-next : goal.least_of_three-requires-clause-next
least_of_three-requires-clause-next c =
    row_counts c.self.inside.tau (length c.as_mut_slice.result.now) c.as_slice-3.result.now c.args.next_values.now c.args.next_value
    (row_read c.self.inside.tau c.self.inside.next.items c.as_slice-3.result.now c.args.next_values.now c.args.next_value c.write_levels-2.new.row.items
    c.as_slice-3.ensures.value c.write_levels-2.ensures.levels c.self.invariant.next_fits)
    (ap length c.as_mut_slice.ensures.value ∙ c.self.invariant.sums_fit) c.requires.few_next

pub returns-clause-least : goal.returns-clause-least
returns-clause-least c =
    let own = c.self.inside in
    let first = row_read own.tau own.first.items c.as_slice-2.result.now c.args.values.now c.args.value c.write_levels.new.row.items
    c.as_slice-2.ensures.value c.write_levels.ensures.levels c.self.invariant.first_fits in
    let next = row_read own.tau own.next.items c.as_slice-3.result.now c.args.next_values.now c.args.next_value c.write_levels-2.new.row.items
    c.as_slice-3.ensures.value c.write_levels-2.ensures.levels c.self.invariant.next_fits in
    let of_rows = rows_number own.tau own.rows.items own.others.items c.args.self.now c.self.view_is in
    let not_two = c.if-len-eq2.false in
    let wide = ap length c.as_mut_slice.ensures.value ∙ c.self.invariant.sums_fit in
    tried_by_three own.tau own.rows.items own.others.items c.args.self.now c.args.pair c.args.values.now c.args.value c.args.next_values.now
    c.args.next_value c.self.view_is c.least_cost_is_that_of_splits.ensures c.least_cost_is_the_least.ensures.agrees c.least_cost_is_that_of_three.ensures
    c.requires.inside c.self.invariant.counted c.requires.few c.requires.few_next c.as_slice-2.result.now c.as_slice-3.result.now
    c.least_of_three.result first next c.as_slice-4.result.now c.as_slice-4.ensures.value (omega arith) c.requires.turned
    (subst (λ n. IsLeastSum (counts_in (c.as_slice-2.result.now ∷ c.as_slice-3.result.now ∷ c.as_slice-4.result.now ∷ [])) 0 3 n c.least_of_three.result)
    (let out : length c.as_mut_slice.result.now - 1 ≡ own.tau + 1 = omega arith in out) c.least_of_three.ensures.least)
