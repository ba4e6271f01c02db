use Rattle.std.proofs.Common.{◌≡◌, ◌+◌, ◌-◌, ◌*◌, ◌^◌, ◌<◌, ◌≤◌, get_or, ap, sym, subst, ⊎_elim, arith}
use Rattle.std.proofs.lemmas.Bool.{cases_lt}
use Rattle.std.proofs.lemmas.Result.{IfOk-weaker}
use Rattle.threshold_model.specs.Splits.{split_cost, table_count, IsBestUpTo}
use Rattle.threshold_model.specs.declared.listed.Split.{Split}
use Rattle.threshold_model.proofs.BestLemmas.{best_one, up_to_start, up_to_other, up_to_best}
use Rattle.threshold_model.proofs.listed.+least_from.Goals as goal

pub returns-then-parts-eq1-clause-best : goal.returns-then-parts-eq1-clause-best
returns-then-parts-eq1-clause-best t c =
    IfOk-weaker c.last_split.result _ _
    (λ split units. best_one (table_count c.args.counts.now c.args.width) c.args.part c.args.parts c.args.units split.units.items (omega arith) units)
    c.last_split.ensures.units

pub loop-pick-init : goal.loop-pick-init
loop-pick-init t c =
    let count = table_count c.args.counts.now c.args.width in
    let items = ap (split_cost count c.args.part) c.in_ok-best.ensures.units in
    let zero : c.args.part * c.args.width + 0 ≡ c.args.part * c.args.width = omega arith in
    let first = ap (λ k. get_or c.args.counts.now k 0) zero in (
      up_to_start count c.args.part c.args.parts (c.args.parts - 1) c.args.units c.in_ok-rest.rest.units.items
          c.in_ok-best.best.units.items (omega arith) c.in_ok-rest.ensures.best c.in_ok-best.ensures.units,
      omega (arith, items, c.in_ok-best.ensures.cost, c.in_ok-rest.ensures.cost, first),
      omega (arith, c.in_ok-best.ensures.cost, c.in_ok-rest.ensures.bound, c.type_inv.counts (c.args.part * c.args.width)),
    )

pub loop-pick-preserved : goal.loop-pick-preserved
loop-pick-preserved t c =
    let count = table_count c.args.counts.now c.args.width in
    let best = c.loop-pick.best in
    let other = c.in_ok-other.other in
    let so_far = c.loop-pick.invariant in
    let items = ap (split_cost count c.args.part) c.in_ok-other.ensures.units in
    let other_cost : c.in_ok-other.other.cost
    ≡ split_cost (table_count c.args.counts.now c.args.width) c.args.part c.in_ok-other.other.units.items =
    omega (arith, items, c.in_ok-other.ensures.cost, c.in_ok-rest-2.ensures.cost) in
    let other_bound : c.in_ok-other.other.cost ≤ c.args.parts * (2 ^ 32 - 1) = omega (
      arith,
      c.in_ok-other.ensures.cost,
      c.in_ok-rest-2.ensures.bound,
      c.type_inv.counts (c.args.part * c.args.width + c.loop-pick.pick),
    ) in
    let now : c.loop-pick.pick ≡ c.loop-pick.pick + 1 - 1 = omega arith in
    let Holds = λ (split : Split). IsBestUpTo (table_count c.args.counts.now c.args.width) c.args.part c.args.parts c.args.units
    (c.loop-pick.pick + 1 - 1) split.units.items
    × (split.cost ≡ split_cost (table_count c.args.counts.now c.args.width) c.args.part split.units.items)
    × (split.cost ≤ c.args.parts * (2 ^ 32 - 1)) in
    ⊎_elim
    (λ (less : c.in_ok-other.other.cost < c.loop-pick.best.cost). subst Holds (sym (c.cheaper-best.ensures.other less)) (
      subst (λ n. IsBestUpTo count c.args.part c.args.parts c.args.units n c.in_ok-other.other.units.items) now
          (up_to_other count c.args.part c.args.parts (c.args.parts - 1) c.args.units (c.loop-pick.pick - 1) c.loop-pick.pick
          (c.args.units - c.loop-pick.pick) c.loop-pick.best.units.items c.in_ok-rest-2.rest.units.items
          c.in_ok-other.other.units.items
          (omega arith) (omega arith) (omega arith) c.in_ok-rest-2.ensures.best c.loop-pick.invariant.0 c.in_ok-other.ensures.units
          (omega (arith, so_far.1, other_cost))),
      other_cost,
      other_bound,
    ))
    (λ (le : c.loop-pick.best.cost ≤ c.in_ok-other.other.cost). subst Holds (sym (c.cheaper-best.ensures.best le)) (
      subst (λ n. IsBestUpTo count c.args.part c.args.parts c.args.units n c.loop-pick.best.units.items) now
          (up_to_best count c.args.part c.args.parts (c.args.parts - 1) c.args.units (c.loop-pick.pick - 1) c.loop-pick.pick
          (c.args.units - c.loop-pick.pick) c.loop-pick.best.units.items c.in_ok-rest-2.rest.units.items
          c.in_ok-other.other.units.items
          (omega arith) (omega arith) (omega arith) c.in_ok-rest-2.ensures.best c.loop-pick.invariant.0 c.in_ok-other.ensures.units
          (omega (arith, so_far.1, other_cost))),
      so_far.1,
      so_far.2,
    ))
    (cases_lt c.in_ok-other.other.cost c.loop-pick.best.cost)
