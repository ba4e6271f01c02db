use Rattle.std.proofs.Common.{◌≡◌, ◌+◌, ◌-◌, length, subst, arith}
use Rattle.threshold_dp.specs.Table.{IsRowFrom}
use Rattle.threshold_dp.proofs.TableLemmas.{row_more}
use Rattle.threshold_dp.proofs.table.add_part.Goals as goal

pub loop-units-preserved : goal.loop-units-preserved
loop-units-preserved c =
    let units = c.loop-units.units - 1 in
    let more : c.loop-units.units ≡ (c.loop-units.units - 1) + 1 = omega arith in
    let rest = subst
    (λ from. IsRowFrom from (length c.args.asked.now) c.args.asked.now c.args.costs.now c.loop-units.costs c.loop-units.picks)
    more c.loop-units.invariant.1 in (
      omega arith,
      row_more (c.loop-units.units - 1) (length c.args.asked.now) c.args.asked.now c.args.costs.now c.loop-units.costs
          c.loop-units.picks c.cheapest_units-pick.result.cost c.cheapest_units-pick.result.units (omega arith)
          (omega arith) rest c.cheapest_units-pick.ensures.first c.cheapest_units-pick.ensures.cost,
    )
