use Rattle.std.proofs.Common.{◌≡◌, ◌-◌, ◌*◌, ◌≤◌, suc, set, length, drop, ◌∙◌, subst, arith}
use Rattle.threshold_model.specs.Splits.{IsBest, split_cost}
use Rattle.threshold_dp.specs.Table.{AreAsked, follow, joint_cost, pick_rows}
use Rattle.threshold_dp.proofs.RowsLemmas.{first_best, first_cost, row_within, rows_number}
use Rattle.threshold_dp.proofs.table.solve_one.Goals as goal

pub cheapest_units-pick-requires-clause-bound : goal.cheapest_units-pick-requires-clause-bound
cheapest_units-pick-requires-clause-bound g c = λ other le.
    let number = rows_number (length c.args.asked.now) (c.args.parts - 1) (drop (1 * length c.args.asked.now) c.solve_from.new.picks) in
    omega (arith, c.solve_from.ensures.solved.bound other (omega arith), number)

pub returns-clause-best : goal.returns-clause-best
returns-clause-best g c =
    let width = length c.args.asked.now in
    let units = width - 1 in
    let pick = c.cheapest_units-pick.result.units in
    let picks = c.solve_from.new.picks in
    let count = g.C.PartCounts.counts c.args.counts.now in
    let more : suc (c.args.parts - 1) ≡ c.args.parts = omega arith in
    let asks = subst (λ n. AreAsked count 0 n c.read_counts.new.asked) c.solve_from.auto.asked c.read_counts.ensures.asked in
    let room : width ≤ length picks = omega (arith, c.solve_from.auto.picks, row_within 0 c.args.parts width (omega arith) (omega arith)) in
    subst (λ n. IsBest count 0 n units (follow (pick_rows width n (set picks units pick)) units)) more
    (first_best count width (c.args.parts - 1) units pick c.read_counts.new.asked c.solve_from.new.costs picks (omega arith) room asks
    c.solve_from.ensures.solved c.cheapest_units-pick.ensures.first)

pub returns-clause-cost : goal.returns-clause-cost
returns-clause-cost g c =
    let width = length c.args.asked.now in
    let units = width - 1 in
    let pick = c.cheapest_units-pick.result.units in
    let picks = c.solve_from.new.picks in
    let count = g.C.PartCounts.counts c.args.counts.now in
    let more : suc (c.args.parts - 1) ≡ c.args.parts = omega arith in
    let asks = subst (λ n. AreAsked count 0 n c.read_counts.new.asked) c.solve_from.auto.asked c.read_counts.ensures.asked in
    let room : width ≤ length picks = omega (arith, c.solve_from.auto.picks, row_within 0 c.args.parts width (omega arith) (omega arith)) in
    c.cheapest_units-pick.ensures.cost
    ∙ subst (λ n. joint_cost c.read_counts.new.asked c.solve_from.new.costs units pick ≡ split_cost count 0 (follow (pick_rows width n (set picks
    units pick)) units)) more
    (first_cost count width (c.args.parts - 1) units pick c.read_counts.new.asked c.solve_from.new.costs picks (omega arith) room asks
    c.solve_from.ensures.solved c.cheapest_units-pick.ensures.first)
