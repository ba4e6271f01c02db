use Rattle.std.proofs.Common.{◌≡◌, ◌+◌, ◌-◌, subst, arith}
use Rattle.std.proofs.lemmas.List.{length-take-le}
use Rattle.threshold_model.specs.Splits.{IsBest, split_cost}
use Rattle.threshold_dp.specs.Table.{pick_rows, follow}
use Rattle.threshold_dp.proofs.table.solve.Goals as goal

pub returns-clause-best : goal.returns-clause-best
returns-clause-best g c =
    let width = length-take-le (c.args.tau + 2) c.args.asked.now c.requires.asked in
    let units : c.args.tau + 2 - 1 ≡ c.args.tau + 1 = omega arith in
    let count = g.C.PartCounts.counts c.args.counts.now in
    subst (λ n. IsBest count 0 c.args.parts n (follow (pick_rows (c.args.tau + 2) c.args.parts c.solve_one.new.picks) n)) units
    (subst (λ n. IsBest count 0 c.args.parts (n - 1) (follow (pick_rows n c.args.parts c.solve_one.new.picks) (n - 1))) width c.solve_one.ensures.best)

pub returns-clause-cost : goal.returns-clause-cost
returns-clause-cost g c =
    let width = length-take-le (c.args.tau + 2) c.args.asked.now c.requires.asked in
    let units : c.args.tau + 2 - 1 ≡ c.args.tau + 1 = omega arith in
    let count = g.C.PartCounts.counts c.args.counts.now in
    subst (λ n. c.solve_one.result ≡ split_cost count 0 (follow (pick_rows (c.args.tau + 2) c.args.parts c.solve_one.new.picks) n)) units
    (subst (λ n. c.solve_one.result ≡ split_cost count 0 (follow (pick_rows n c.args.parts c.solve_one.new.picks) (n - 1))) width c.solve_one.ensures.cost)
